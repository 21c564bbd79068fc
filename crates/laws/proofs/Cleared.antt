-- A port that a list clears is marked when the event is done, and a mark stays until its port is arbitrated. Assumes nothing.
use mathlib.Core.Path.{◌≡◌, refl, sym, ap, ◌∙◌}
use mathlib.Core.Bool.{Bool, true, false, ◌&&◌}
use mathlib.Core.Logic.{◌⊎◌, inl, inr, ⊎_elim}
use mathlib.Core.List.Memᴰ
use mathlib.Core.List.{List, [], ◌∷◌, ◌++◌}
use Prim.Native.Nat.{ℕ, ◌%◌, ◌≤◌, ◌<◌}
use native.Mathlib.Omega.{arith}
use native.Mathlib.Nat.{mod-eq_of_lt}
use lib.ListN.{length, length-set}
use lib.Dec.{eqb}
use borrow.Author.Tests.{ltb-true, eqb-true, eqb-false, eq-eqb, ne_eqb}
use Rattle.rulebook.specs.Words.{word, field}
use Rattle.rulebook.specs.Table.{ports, port_event, deferred, rule_expression, list_owner, item_kind, item_a, item_b, item_clear, item_rule}
use Rattle.rulebook.specs.Expressions.{deepest}
use Rattle.rulebook.specs.State.{marked_of}
use Rattle.rulebook.specs.Lists.{Run, start, trace_word, trace_list_start, set_port, effect, act, set_result, judge}
use Rattle.rulebook.specs.Arbitration.{unmark_ports, arbitrate}
use Rattle.rulebook.specs.Events.{event_kind, event_index, event_tick, only, request, tick_things, marked_in}
use Rattle.rulebook.specs.Events.{arbitrate_marked, tick, happen}
use Rattle.laws.specs.Facts.{Facts}
use Rattle.laws.specs.Chosen.{sets_port}
use Rattle.laws.specs.Cleared.{arbitrates, ClearTold, ClearCounts}
use Rattle.laws.proofs.Tests.{split, clash, and_left, and_both, or-none}
use Rattle.laws.proofs.Expressions.{mentions-more}
use Rattle.laws.proofs.Fields.{digit-small, trace-kind, trace-a}
use Rattle.laws.proofs.Items.{clear-there, port-there}
use Rattle.laws.proofs.Runs.{Within, item-there, KeptByActs, decide-keeps}
use Rattle.laws.proofs.FitKept.{Fits, port-long}
use Rattle.laws.proofs.FitEvents.{things-fit, source-to, network-to, happen-fits}
use Rattle.laws.proofs.Happen.{Taken, Event, a_tick, a_mode, a_request, of_source, of_network, event}
use Rattle.laws.proofs.Marks.{Marked, shows, hides, shown-marked, hidden-unmarked, port-written, port-marked-again, result-elsewhere}
use Rattle.laws.proofs.Marks.{effect-length, effect-marks, network-marks, source-marks, things-mark, unmark-it, unmark-others, store-elsewhere}
use Rattle.laws.proofs.Unmarked.{happen-quiet}

-- Lists: what the words so far tell of port p. C is whatever else its mark may come from.

module _ (t : List ℕ) (f : Facts t) (p : ℕ) (b : p < ports t) where
  record Tells (C : Type 0) (x : Run) : Type 0 where
    there : p < length x.state
    mark : C ⊎ ClearTold p x.words → Marked p x.state

  clears-it : (i : ℕ) (s : List ℕ) → item_kind t i ≡ item_clear → item_a t i ≡ p → p < length s → Marked p (effect t i s)
  unfolding effect
  clears-it i s k a h = rw (k, a) (port-written p s 1 0 0 (omega arith) h)

  -- v is no word of a clear of p
  abbrev Apart : ℕ → Type 0
  Apart v = (o : ℕ) → trace_word item_clear o p 0 ≡ v → ⊥

  -- one word more, of an act that is no clear of p
  one_more : (C : Type 0) (v : ℕ) (ws : List ℕ) → Apart v → C ⊎ ClearTold p (ws ++ (v ∷ [])) → C ⊎ ClearTold p ws
  one_more C v ws n (inl c) = inl c
  one_more C v ws n (inr m) =
      ⊎_elim (λ z. inr (record { owner = m.owner; told = z })) (λ z. absurd (n m.owner (Memᴰ.eq_of_singleton z)))
      (Memᴰ.append_cases ws m.told)

  kind-apart : (k o' a c : ℕ) → (k % 16 ≡ item_clear → ⊥) → Apart (trace_word k o' a c)
  kind-apart k o' a c n o e = n (sym (trace-kind k o' a c) ∙ ap (λ (w : ℕ). field 0 4 w) (sym e) ∙ trace-kind item_clear o p 0)

  port-apart : (k o' a c : ℕ) → a < ports t → (a ≡ p → ⊥) → Apart (trace_word k o' a c)
  port-apart k o' a c h n o e =
      let same : a % 256 ≡ p % 256 = sym (trace-a k o' a c) ∙ ap (λ (w : ℕ). field 8 8 w) (sym e) ∙ trace-a item_clear o p 0 in
      let most : ports t ≤ 64 = f.counts.ports in
      n (omega arith)

  act-marks : (C : Type 0) (l i : ℕ) (x : Run) → Within t l i → Tells C x → C ⊎ ClearTold p (act t (list_owner t l) i x).words
      → Marked p (effect t i x.state)
  unfolding act
  act-marks C l i x w q c =
      let no-clear : Apart (trace_word (item_kind t i) (list_owner t l) (item_a t i) (item_b t i)) → Marked p (effect t i x.state)
      = λ n. effect-marks t p b i x.state (q.mark (one_more C _ x.words n c)) in
      split (eqb (item_kind t i) item_clear)
      (λ k. let is = eqb-true _ _ k in split (eqb (item_a t i) p)
      (λ a. clears-it i x.state is (eqb-true _ _ a) q.there)
      (λ a. no-clear (port-apart _ _ _ _ (port-there t port_event (item_a t i) (clear-there t i (f.item i (item-there t f l i w)).1 is)) (eqb-false _ _ a))))
      (λ k. let n = eqb-false _ _ k in let small : item_kind t i < 16 = digit-small _ 16 _ (omega arith) in
      no-clear (kind-apart (item_kind t i) _ _ _ (λ z. n (sym (mod-eq_of_lt small) ∙ z))))

  tells-kept : (C : Type 0) → KeptByActs t (Tells C)
  unfolding act judge set_result
  tells-kept C =
      record {
        list_start = λ l x h q. record {
          there = q.there;
          mark = λ c. q.mark (one_more C _ x.words (kind-apart trace_list_start _ _ _ (λ z. omega arith)) c);
        };
        act = λ l i x w g h q. record {
          there = rw (effect-length t i x.state) q.there;
          mark = act-marks C l i x w q;
        };
        undefined = λ l i x w e q. record { there = q.there; mark = λ c. q.mark (one_more C _ x.words (kind-apart item_rule _ _ _ (λ z. omega arith)) c) };
        judge = λ l i x w e u q. record {
          there = rw (length-set x.state _ _) q.there;
          mark = λ c. result-elsewhere t p b (item_a t i) _ x.state (q.mark (one_more C _ x.words (kind-apart item_rule _ _ _ (λ z. omega arith)) c));
        };
      }

  -- An arbitration: a mark that it does not clear comes through.

  arbitrate-tells : (C : Type 0) (q : ℕ → Bool) (os s : List ℕ) → p < length s → (C → (q p ≡ false) × Marked p s) → Tells C (arbitrate t q os s)
  unfolding arbitrate
  arbitrate-tells C q os s h through =
      let unmarked = unmark_ports t q s in
      let long = split (q p) (λ e. (unmark-it t p b q s e h).there) (λ e. (unmark-others t p b q s e (record { there = h; mark = refl })).there) in
      decide-keeps t f (Tells C) (tells-kept C) q os unmarked
      (record {
        there = (store-elsewhere t p b q unmarked (record { there = long; mark = refl })).there;
        mark = ⊎_elim (λ c. store-elsewhere t p b q unmarked (unmark-others t p b q s (through c).0 (through c).1))
            (λ m. absurd (Memᴰ.not-nil m.told));
      })

  -- a request of another port, or a deferred one
  request-marks : (q v : ℕ) (os s : List ℕ) → (q ≡ p → deferred t p ≡ 1) → Marked p s → Marked p (request t q v os s).state
  unfolding request only
  request-marks q v os s late h =
      split (eqb (deferred t q) 1) (λ e. rw e (port-marked-again p s q 1 v 0 (λ z. refl) h))
      (λ e. let other : (p ≡ q → ⊥) = λ z. eqb-false (deferred t q) 1 e (rw z at (late (sym z))) in
      let put = port-marked-again p s q 0 v 0 (λ z. absurd (other z)) h in
      rw e ((arbitrate-tells (Marked p (set_port q 0 v 0 s)) (only q) os _ put.there (λ c. (ne_eqb p q other, c))).mark (inl put)))

  -- What an event's words tell.

  told-by-none : (os s : List ℕ) → p < length s → Tells ⊥ (start os s)
  told-by-none os s h = record { there = h; mark = ⊎_elim (λ c. absurd c) (λ m. absurd (Memᴰ.not-nil m.told)) }

  request-tells : (q v : ℕ) (os s : List ℕ) → p < length s → Tells ⊥ (request t q v os s)
  unfolding request set_port
  request-tells q v os s h =
      split (eqb (deferred t q) 1) (λ e. rw e (told-by-none os _ (rw (length-set s q _) h)))
      (λ e. rw e (arbitrate-tells ⊥ (only q) os _ (rw (length-set s q _) h) (λ c. absurd c)))

  happen-tells : (e : ℕ) (os s : List ℕ) → Taken t e → Fits t s → Tells ⊥ (happen t e os s)
  unfolding tick arbitrate_marked
  happen-tells e os s w h = go (happen t e) (event t e w) (happen-fits t f e os s w h)
    where
      long : (s' : List ℕ) → Fits t s' → p < length s'
      long s' k = port-long t s' k p b

      go : (g : List ℕ → List ℕ → Run) → Event t e g → Fits t (g os s).state → Tells ⊥ (g os s)
      go g (a_tick k u) z = arbitrate-tells ⊥ _ os _ (long _ (things-fit t f s h)) (λ c. absurd c)
      go g (a_mode k u m n) z = request-tells _ _ os s (long s h)
      go g (a_request k u m) z = request-tells _ _ os s (long s h)
      go g (of_source k n of u c) z = told-by-none os _ (long _ z)
      go g (of_network k of u c) z = told-by-none os _ (long _ z)

  happen-waits : (e : ℕ) (os s : List ℕ) → Taken t e → Fits t s → (event_kind e ≡ event_tick → ⊥) → (sets_port e ≡ true → event_index e ≡ p → deferred t p ≡ 1)
      → Marked p s → Marked p (happen t e os s).state
  happen-waits e os s w fit no-tick late h = go (happen t e) (event t e w)
    where
      go : (g : List ℕ → List ℕ → Run) → Event t e g → Marked p (g os s).state
      go g (a_tick k u) = absurd (no-tick k)
      go g (a_mode k u m n) = request-marks (event_index e) _ os s (late (rw k)) h
      go g (a_request k u m) = request-marks (event_index e) _ os s (late (rw k)) h
      go g (of_source k n of u c) = source-to t f (Marked p) e s u c (λ status r ok. source-marks t p b _ status r s h) h
      go g (of_network k of u c) = network-to t f (Marked p) e s u c of.there fit (λ x ok same. network-marks t p b _ x s h) h

pub clear-counts : (t : List ℕ) → Facts t → (e : ℕ) (os s : List ℕ) → Taken t e → Fits t s
    → ClearCounts t e s (happen t e os s).state (happen t e os s).words
unfolding marked_in only
clear-counts t f e os s w h =
    record {
      marks = λ p b m. shows t p b ((happen-tells t f p b e os s w h).mark (inr m));
      at_tick = λ p r m. mentions-more t (only p) (marked_in t (tick_things t s))
          (λ x e. rw (eqb-true x p e) (shows t p (there p m) (things-mark t p (there p m) s (stands p m)))) deepest (rule_expression t r);
      waits = λ p m a. shows t p (there p m) (happen-waits t f p (there p m) e os s w h (no-tick p a) (late p a) (stands p m));
      goes = λ p b k why r n. hides t p b
          (happen-quiet t f p b k e os s w h (⊎_elim (λ a. inl a) (λ m. inr (hidden-unmarked t p b s (port-long t s h p b) m)) why) r n);
    }
  where
    there : (p : ℕ) → marked_in t s p ≡ true → p < ports t
    there p m = ltb-true _ _ (and_left _ (eqb (marked_of (word s p)) 1) m)

    stands : (p : ℕ) → marked_in t s p ≡ true → Marked p s
    stands p m = shown-marked t p (there p m) s (port-long t s h p (there p m)) m

    no-tick : (p : ℕ) → arbitrates t e p ≡ false → event_kind e ≡ event_tick → ⊥
    no-tick p a = eqb-false _ _ (or-none (eqb (event_kind e) event_tick) _ a).0

    late : (p : ℕ) → arbitrates t e p ≡ false → sets_port e ≡ true → event_index e ≡ p → deferred t p ≡ 1
    late p a sets is =
        let n : (deferred t p ≡ 0 → ⊥) = λ z. clash (and_both (sets_port e && eqb (event_index e) p) _ (and_both _ _ sets (eq-eqb _ _ is)) (eq-eqb _ _ z))
        (or-none (eqb (event_kind e) event_tick) _ a).1 in
        let small : deferred t p < 2 = digit-small _ 2 _ (omega arith) in
        omega arith
