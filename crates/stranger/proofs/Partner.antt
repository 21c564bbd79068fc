-- The condition of the strangers' theorem can be met. Every log has a partner without strangers' entries: the same events of o and of the
-- platform, each lent exactly the outcomes that its calls then read, so chosen that o's and the platform's calls meet what they met in the
-- log. And where no outcome is read, logs of the same kept events meet the same. Assumes nothing.
use mathlib.Core.Path.{◌≡◌, refl, sym, ◌∙◌, ap}
use mathlib.Core.Bool.{Bool, true, false, ◌&&◌, not}
use mathlib.Core.List.{List, [], ◌∷◌, ◌++◌, append-nil, append_assoc}
use Prim.Native.Nat.{ℕ, zero, suc, ◌≤◌, ◌<◌}
use native.Mathlib.Omega.{arith}
use lib.ListN.{length, drop}
use lib.Dec.{eqb}
use borrow.Author.Tests.{eqb-true, eqb-false, ne_eqb, leb-true, le-leb}
use Rattle.rulebook.specs.Words.{word, until}
use Rattle.rulebook.specs.Table.{edition, deferred, no_list, list_owner, first_item, item_count, item_kind, abort, item_a, item_b, item_call, item_list, item_rule}
use Rattle.rulebook.specs.Table.{stranger}
use Rattle.rulebook.specs.Expressions.{deepest}
use Rattle.rulebook.specs.State.{undefined_result}
use Rattle.rulebook.specs.Lists.{Run, start, emit, leave, visit, visits_in, trace_word, trace_list_start, set_port, effect, unread, act, stops, unready, choice_in}
use Rattle.rulebook.specs.Lists.{judge, run_choice, run_rule, run_item, run_items, run_list, trace_owner}
use Rattle.rulebook.specs.Arbitration.{run_if, run_chosen, order, decide, arbitrate}
use Rattle.rulebook.specs.Events.{only, request, arbitrate_marked, tick, happen}
use Rattle.rulebook.specs.Step.{outcomes_known, good_or_failed, refused_event, heeded}
use Rattle.laws.specs.Sequence.{Each}
use Rattle.laws.proofs.Tests.{split}
use Rattle.laws.proofs.Walks.{until-last, until-next, all-at, all_from}
use Rattle.laws.proofs.Fields.{digit-small}
use Rattle.laws.proofs.Cases.{item-list, item-rule, item-act, item-cases, rule-unready, rule-ready, choice-none, choice-some, if-chosen, if-not}
use Rattle.laws.proofs.Frame.{Framed, over, framed-until, choice-framed, item-framed, list-framed, chosen-framed}
use Rattle.laws.proofs.Order.{each_both}
use Rattle.laws.proofs.Happen.{Taken, taken-event, Event, a_tick, a_mode, a_request, of_source, of_network, event}
use Rattle.laws.proofs.Play.{none-heeded}
use Rattle.stranger.specs.Logs.{Entry, Log, log_from, strangers_entry, struck_out}
use Rattle.stranger.specs.Outcomes.{calls, behind, met_at, met, met_by, met_in, Agree, AgreeEach, ButStrangers, NoneRead, Partner, MayMeet}
use Rattle.stranger.proofs.More.{pick}
use Rattle.stranger.proofs.Outcomes.{left_by, left_both, met-both, met-one, calls-kind, no_call}

-- Agreeing.

agree-none : (m : List ℕ) → Agree m []
agree-none [] = tt
agree-none (a ∷ m) = tt

agree-first : (m : List ℕ) → Agree m (word m 0 ∷ [])
agree-first [] = tt
agree-first (a ∷ m) = (refl, agree-none m)

agree_then : (m ls ms : List ℕ) → Agree m ls → Agree (drop (length ls) m) ms → Agree m (ls ++ ms)
agree_then [] ls ms h k = tt
agree_then (a ∷ m) [] ms h k = k
agree_then (a ∷ m) (b ∷ ls) ms h k = (h.0, agree_then m ls ms h.1 k)

-- What holds of each outcome that is lent, and of 0, which a call reads past their end, holds of each that calls met.

each-drop : (P : ℕ → Type 0) (n : ℕ) (os : List ℕ) → Each P os → Each P (drop n os)
each-drop P zero os h = h
each-drop P (suc n) [] h = tt
each-drop P (suc n) (a ∷ os) h = each-drop P n os h.1

each-heeded : (P : ℕ → Type 0) (t os : List ℕ) → Each P os → Each P (heeded t os)
unfolding heeded
each-heeded P t os h = pick (Each P) (eqb (edition t) 2) (λ e. h) (λ e. tt)

module _ (P : ℕ → Type 0) (good : P 0) where
  each_word : (os : List ℕ) (i : ℕ) → Each P os → P (word os i)
  each_word [] i h = good
  each_word (a ∷ os) zero h = h.0
  each_word (a ∷ os) (suc i) h = each_word os i h.1

  each-met : (o : ℕ) (os ws : List ℕ) → Each P os → Each P (met o os ws)
  unfolding met met_at behind
  each-met o os [] h = tt
  each-met o os (w ∷ ws) h =
      each_both P (met_at o os w) (met o (behind w os) ws)
      (pick (Each P) (calls w && not (stranger o (trace_owner w))) (λ e. (each_word os 0 h, tt)) (λ e. tt))
      (each-met o (behind w os) ws (pick (Each P) (calls w) (λ e. each-drop P 1 os h) (λ e. h)))

-- Outcomes that answer 8 lets through.

abbrev Small : List ℕ → Type 0
Small os = Each (λ v. v ≤ 1) os

small-from : (os : List ℕ) → ((i : ℕ) → i < length os → word os i ≤ 1) → Small os
small-from [] f = tt
small-from (a ∷ os) f = (f 0 (omega arith), small-from os (λ i b. f (suc i) (omega arith)))

known_small : (os : List ℕ) → outcomes_known os ≡ true → Small os
unfolding outcomes_known good_or_failed
known_small os h = small-from os (λ i b. leb-true _ _ (all-at (good_or_failed os) 0 (length os) i h (omega arith) (omega arith)))

small-known : (os : List ℕ) → Small os → outcomes_known os ≡ true
unfolding outcomes_known good_or_failed
small-known os h = all_from (good_or_failed os) 0 (length os) (λ i a b. le-leb _ _ (each_word _ (omega arith) os i h))

pub taken-known : (t os : List ℕ) (e : ℕ) → refused_event t os e ≡ 0 → outcomes_known os ≡ true
unfolding refused_event
taken-known t os e h =
    split (outcomes_known os) (λ d. d) (λ d. let z : 8 ≡ 0 = rw ((taken-event t os e h).well_formed, d) at h in absurd (omega arith))

taken-with : (t os : List ℕ) (e : ℕ) → Taken t e → outcomes_known os ≡ true → refused_event t os e ≡ 0
unfolding refused_event
taken-with t os e w k = rw (w.well_formed, k, w.known, w.owner)

-- A run, by the outcomes that it starts with, is fed: these it reads, and none of what stands behind them, and then the calls of o and of
-- the platform meet what agrees with m. What follows it can so be fed by what follows in m.
record Fed (o : ℕ) (m : List ℕ) (run : List ℕ → Run) : Type 0 where
  outcomes : List ℕ
  to : Run
  runs : (rest : List ℕ) → run (outcomes ++ rest) ≡ leave rest to
  left : (rest : List ℕ) → left_by (outcomes ++ rest) to.words ≡ rest
  meets : List ℕ
  met : (rest : List ℕ) → met o (outcomes ++ rest) to.words ≡ meets
  agrees : Agree m meets
  small : Small m → Small outcomes

module _ {o : ℕ} {m : List ℕ} where
  -- a run that is another where it is so fed
  fed-at : {f g : List ℕ → Run} (a : Fed o m g) → ((rest : List ℕ) → f (a.outcomes ++ rest) ≡ g (a.outcomes ++ rest)) → Fed o m f
  fed-at a same =
      record {
        outcomes = a.outcomes;
        to = a.to;
        runs = λ rest. same rest ∙ a.runs rest;
        left = a.left;
        meets = a.meets;
        met = a.met;
        agrees = a.agrees;
        small = a.small;
      }

  -- one after the other
  fed_then : {f h : List ℕ → Run} (g : Run → Run) → Framed g → (a : Fed o m f) → Fed o (drop (length a.meets) m) (λ os. g (start os a.to.state))
      → ((rest : List ℕ) → h (a.outcomes ++ rest) ≡ g (f (a.outcomes ++ rest)))
      → Fed o m h
  fed_then g framed a b same =
      record {
        outcomes = a.outcomes ++ b.outcomes;
        to = over a.to b.to;
        runs = λ rest. let after = b.outcomes ++ rest in
            rw (append_assoc, same after, a.runs after) (framed (leave after a.to) ∙ ap (over (leave after a.to)) (b.runs rest));
        left = λ rest. rw (append_assoc a.outcomes b.outcomes rest, left_both, a.left (b.outcomes ++ rest)) (b.left rest);
        meets = a.meets ++ b.meets;
        met = λ rest. let after = b.outcomes ++ rest in
            rw (append_assoc a.outcomes b.outcomes rest, met-both, a.met after, a.left after, b.met rest);
        agrees = agree_then m a.meets b.meets a.agrees b.agrees;
        small = λ h. each_both _ a.outcomes b.outcomes (a.small h) (b.small (each-drop _ (length a.meets) m h));
      }

  -- no word
  fed-none : (visits : ℕ) (s : List ℕ) → Fed o m (λ os. record { state = s; words = []; outcomes = os; visits = visits })
  unfolding left_by met
  fed-none visits s =
      record {
        outcomes = [];
        to = record { state = s; words = []; outcomes = []; visits = visits };
        runs = λ rest. refl;
        left = λ rest. refl;
        meets = [];
        met = λ rest. refl;
        agrees = agree-none m;
        small = λ h. tt;
      }

  -- a word that is no call's, and n visits
  fed-word : {f : List ℕ → Run} (kind owner a b n : ℕ) (s : List ℕ) → kind < 16 → (kind ≡ item_call → ⊥)
      → ((os : List ℕ) → f os ≡ visit n (emit (trace_word kind owner a b) (start os s)))
      → Fed o m f
  unfolding left_by met met_at
  fed-word kind owner a b n s small call is =
      record {
        outcomes = [];
        to = visit n (emit (trace_word kind owner a b) (start [] s));
        runs = is;
        left = no_call kind owner a b small call;
        meets = [];
        met = λ rest. rw (calls-kind kind owner a b small, ne_eqb kind item_call call);
        agrees = agree-none m;
        small = λ h. tt;
      }

  -- the word of a call, a stranger's too: it reads what o or the platform is to meet next
  fed-call : {f : List ℕ → Run} (w : ℕ) (s : List ℕ) → calls w ≡ true → ((rest : List ℕ) → f (word m 0 ∷ rest) ≡ emit w (start rest s)) → Fed o m f
  unfolding left_by behind met_at
  fed-call w s call is =
      record {
        outcomes = word m 0 ∷ [];
        to = emit w (start [] s);
        runs = is;
        left = λ rest. rw call;
        meets = met_at o (word m 0 ∷ []) w;
        met = λ rest. met-one o (word m 0 ∷ rest) w;
        agrees = pick (Agree m) (calls w && not (stranger o (trace_owner w))) (λ e. agree-first m) (λ e. agree-none m);
        small = λ h. (each_word _ (omega arith) m 0 h, tt);
      }

-- Whatever runs can be fed: items, lists, arbitrations, events.

-- an item, and whether it then stops its list
record FedItem (o : ℕ) (m : List ℕ) (run : List ℕ → Run) (last : List ℕ → Bool) : Type 0 where
  fed : Fed o m run
  stop : Bool
  stops : (rest : List ℕ) → last (fed.outcomes ++ rest) ≡ stop

no_stop : (t : List ℕ) (i : ℕ) (x : Run) → eqb (item_kind t i) item_call ≡ false → stops t i x ≡ false
unfolding stops
no_stop t i x e = rw e

-- every list that is named can be fed
abbrev Feeds : ℕ → (ℕ → Run → Run) → Type 0
Feeds o below = (l : ℕ) (s m : List ℕ) → Fed o m (λ os. below l (start os s))

module _ (t : List ℕ) (o : ℕ) (below : ℕ → Run → Run) (framed : (l : ℕ) → Framed (below l)) (feeds : Feeds o below) (owner : ℕ) where
  choice-fed : (l : ℕ) (s m : List ℕ) → Fed o m (λ os. run_choice below l (start os s))
  choice-fed l s m =
      split (eqb l no_list) (λ e. fed-at (fed-none 0 s) (λ rest. choice-none below l _ e)) (λ e. fed-at (feeds l s m) (λ rest. choice-some below l _ e))

  rule-fed : (r : ℕ) (s m : List ℕ) → Fed o m (λ os. run_rule below t owner r (start os s))
  unfolding judge
  rule-fed r s m =
      split (unready t s r)
      (λ e. fed-word item_rule owner r undefined_result 0 s (omega arith) (λ z. omega arith) (λ os. rule-unready below t owner r (start os s) e))
      (λ e. fed_then (run_choice below (choice_in t s r)) (choice-framed t below framed owner _)
      (fed-word {f = λ os. judge t owner r (start os s)} item_rule owner r _ (visits_in t s r) _ (omega arith) (λ z. omega arith) (λ os. refl))
      (choice-fed _ _ _) (λ rest. rule-ready below t owner r _ e))

  -- An item of kind 0 to 4: a call takes an outcome, any other none.

  act-call : (i : ℕ) (s : List ℕ) (a : ℕ) (rest : List ℕ) → eqb (item_kind t i) item_call ≡ true
      → run_item below t owner i (start (a ∷ rest) s) ≡ emit (trace_word (item_kind t i) owner (item_a t i) (item_b t i)) (start rest (effect t i s))
  unfolding act unread
  act-call i s a rest e =
      let is : item_kind t i ≡ item_call = eqb-true (item_kind t i) item_call e in
      item-act below t owner i _ (rw is) (rw is) ∙ rw e

  act-other : (i : ℕ) (s os : List ℕ) → eqb (item_kind t i) item_call ≡ false → eqb (item_kind t i) item_list ≡ false → eqb (item_kind t i) item_rule ≡ false
      → run_item below t owner i (start os s) ≡ emit (trace_word (item_kind t i) owner (item_a t i) (item_b t i)) (start os (effect t i s))
  unfolding act unread
  act-other i s os e g k = item-act below t owner i _ g k ∙ rw e

  other-fed : (i : ℕ) (s m : List ℕ) → eqb (item_kind t i) item_call ≡ false → Fed o m (λ os. run_item below t owner i (start os s))
  other-fed i s m e =
      item-cases below t owner i (λ is g. fed-at (feeds (item_a t i) s m) (λ rest. item-list below t owner i _ g))
      (λ is g k. fed-at (rule-fed (item_a t i) s m) (λ rest. item-rule below t owner i _ g k))
      (λ g k. fed-word (item_kind t i) owner _ _ 0 _ (digit-small _ 16 _ (omega arith)) (eqb-false _ _ e) (λ os. act-other i s os e g k))

  item-fed : (i : ℕ) (s m : List ℕ) → FedItem o m (λ os. run_item below t owner i (start os s)) (λ os. stops t i (start os s))
  unfolding stops fed-call
  item-fed i s m =
      split (eqb (item_kind t i) item_call)
      (λ e. record {
        fed = fed-call _ _ (calls-kind (item_kind t i) owner _ _ (digit-small _ 16 _ (omega arith)) ∙ e) (λ rest. act-call i s (word m 0) rest e);
        stop = eqb (abort t i) 1 && eqb (word m 0) 1;
        stops = λ rest. ap (λ (b : Bool). b && eqb (abort t i) 1 && eqb (word m 0) 1) e;
      })
      (λ e. record {
        fed = other-fed i s m e;
        stop = false;
        stops = λ rest. no_stop t i (start ((other-fed i s m e).outcomes ++ rest) s) e;
      })

  items-fed : (i n : ℕ) (s m : List ℕ) → Fed o m (λ os. until i n (stops t) (run_item below t owner) (start os s))
  unfolding until
  items-fed i zero s m = fed-none 0 s
  items-fed i (suc n) s m =
      let run = run_item below t owner in
      let here = item-fed i s m in
      split here.stop
      (λ e. fed-at here.fed (λ rest. until-last (stops t) run i n _ (here.stops rest ∙ e)))
      (λ e. fed_then (until (suc i) n (stops t) run) (framed-until t run (suc i) n (item-framed t below framed owner)) here.fed
      (items-fed (suc i) n _ _) (λ rest. until-next (stops t) run i n _ (here.stops rest ∙ e)))

module _ (t : List ℕ) (o : ℕ) where
  list-fed : (d : ℕ) → Feeds o (run_list d t)
  unfolding run_list run_items
  list-fed zero l s m = fed-none 0 s
  list-fed (suc d) l s m =
      fed_then (until (first_item t l) (item_count t l) (stops t) (run_item (run_list d t) t (list_owner t l)))
      (framed-until t _ (first_item t l) (item_count t l) (item-framed t (run_list d t) (list-framed t d) (list_owner t l)))
      (fed-word {f = λ os. emit (trace_word trace_list_start (list_owner t l) l 0) (start os s)} trace_list_start (list_owner t l) l 0 0 s (omega arith)
      (λ z. omega arith) (λ os. refl))
      (items-fed t o (run_list d t) (list-framed t d) (list-fed d) (list_owner t l) (first_item t l) (item_count t l) _ _) (λ rest. refl)

  if-fed : (c : ℕ → Bool) (l : ℕ) (s m : List ℕ) → Fed o m (λ os. run_if t c l (start os s))
  if-fed c l s m =
      split (c l) (λ e. fed-at (list-fed deepest l s m) (λ rest. if-chosen t c l _ e)) (λ e. fed-at (fed-none 0 s) (λ rest. if-not t c l _ e))

  chosen-fed : (c : ℕ → Bool) (ls s m : List ℕ) → Fed o m (λ os. run_chosen t c ls (start os s))
  unfolding run_chosen
  chosen-fed c [] s m = fed-none 0 s
  chosen-fed c (l ∷ ls) s m = fed_then (run_chosen t c ls) (chosen-framed t c ls) (if-fed c l s m) (chosen-fed c ls _ _) (λ rest. refl)

  arbitrate-fed : (q : ℕ → Bool) (s m : List ℕ) → Fed o m (λ os. arbitrate t q os s)
  unfolding arbitrate decide
  arbitrate-fed q s m =
      fed_then (run_chosen t _ (order t)) (chosen-framed t _ (order t)) (fed-none _ _) (chosen-fed _ (order t) _ _) (λ rest. refl)

  request-fed : (p value : ℕ) (s m : List ℕ) → Fed o m (λ os. request t p value os s)
  unfolding request
  request-fed p value s m =
      split (eqb (deferred t p) 1) (λ e. fed-at (fed-none 0 (set_port p 1 value 0 s)) (λ rest. rw e))
      (λ e. fed-at (arbitrate-fed (only p) (set_port p 0 value 0 s) m) (λ rest. rw e))

  tick-fed : (s m : List ℕ) → Fed o m (λ os. tick t os s)
  unfolding tick arbitrate_marked
  tick-fed s m = arbitrate-fed _ _ m

  happen-fed : (e : ℕ) → Taken t e → (s m : List ℕ) → Fed o m (λ os. happen t e os s)
  happen-fed e w s m = go (λ os s. happen t e os s) (event t e w)
    where
      go : (g : List ℕ → List ℕ → Run) → Event t e g → Fed o m (λ os. g os s)
      go g (a_tick k own) = tick-fed s m
      go g (a_mode k of n free) = request-fed _ _ s m
      go g (a_request k of n) = request-fed _ _ s m
      go g (of_source k n of u c) = fed-none 0 _
      go g (of_network k of u c) = fed-none 0 _

-- Where no outcome is read, every call meets 0.

abbrev pub Zeros : List ℕ → Type 0
Zeros ms = Each (λ v. v ≡ 0) ms

pub agree-zeros : (ls ms : List ℕ) → Zeros ls → Zeros ms → Agree ls ms
agree-zeros [] ms h k = tt
agree-zeros (a ∷ ls) [] h k = tt
agree-zeros (a ∷ ls) (b ∷ ms) h k = (h.0 ∙ sym k.0, agree-zeros ls ms h.1 k.1)

abbrev pub AllZeros : List (List ℕ) → Type 0
AllZeros [] = Unit {0}
AllZeros (l ∷ ls) = Zeros l × AllZeros ls

pub agree-all-zeros : (ls ms : List (List ℕ)) → AllZeros ls → AllZeros ms → AgreeEach ls ms
agree-all-zeros [] ms h k = tt
agree-all-zeros (l ∷ ls) [] h k = tt
agree-all-zeros (l ∷ ls) (m ∷ ms) h k = (agree-zeros l m h.0 k.0, agree-all-zeros ls ms h.1 k.1)

module _ (t : List ℕ) (o : ℕ) where
  pub met-zeros : (x : Entry) → heeded t x.outcomes ≡ [] → Zeros (met_by t o x)
  met-zeros x h = each-met _ refl o _ x.words (rw h tt)

  none-met : (xs : List Entry) → NoneRead t xs → AllZeros (met_in t o xs)
  unfolding met_in
  none-met [] h = tt
  none-met (x ∷ xs) h =
      split (strangers_entry o x) (λ k. rw (k, met_in) (none-met xs h.1)) (λ k. rw (k, met_in) (met-zeros x h.0, none-met xs h.1))

  pub none_read_lem : (xs ys : List Entry) → NoneRead t xs → NoneRead t ys → struck_out o xs ≡ struck_out o ys → ButStrangers t o xs ys
  none_read_lem xs ys h k e = record { events = e; outcomes = agree-all-zeros (met_in t o xs) (met_in t o ys) (none-met xs h) (none-met ys k) }

none-in-first : (t : List ℕ) → edition t ≡ 1 → (xs : List Entry) → NoneRead t xs
unfolding heeded
none-in-first t h [] = tt
none-in-first t h (x ∷ xs) = (rw h, none-in-first t h xs)

none-in-play : (t s es : List ℕ) → NoneRead t (log_from t s es)
unfolding log_from
none-in-play t s [] = tt
none-in-play t s (e ∷ es) = (none-heeded t, none-in-play t (happen t e [] s).state es)

-- The partner. Its entries are the kept ones of the log, each with its event and outcomes fed by what it met.

-- the entry that event e leaves from state s with the outcomes os lent
abbrev pub entry_from : List ℕ → List ℕ → ℕ → List ℕ → Entry
entry_from t s e os = record { event = e; outcomes = os; state = (happen t e (heeded t os) s).state; words = (happen t e (heeded t os) s).words }

-- outcomes with which the event of x is taken, and the calls of o and of the platform meet what they met in x
pub record Again (t : List ℕ) (o : ℕ) (s : List ℕ) (x : Entry) : Type 0 where
  pub outcomes : List ℕ
  pub taken : refused_event t outcomes x.event ≡ 0
  pub agrees : Agree (met_by t o x) (met_by t o (entry_from t s x.event outcomes))

fed-meets : {o : ℕ} {m : List ℕ} {run : List ℕ → Run} (a : Fed o m run) → met o a.outcomes (run a.outcomes).words ≡ a.meets
fed-meets a =
    let words = rw append-nil at (ap (λ (x : Run). x.words) (a.runs [])) in
    rw words (rw append-nil at (a.met []))

module _ (t : List ℕ) (o : ℕ) where
  met-small : (x : Entry) → refused_event t x.outcomes x.event ≡ 0 → Small (met_by t o x)
  met-small x z =
      let lent = known_small x.outcomes (taken-known t x.outcomes x.event z) in
      each-met (λ v. v ≤ 1) (omega arith) o _ x.words (each-heeded _ t x.outcomes lent)

  -- where the edition heeds no outcomes, both sides meet 0 alone
  fed-agrees : (s : List ℕ) (x : Entry) (a : Fed o (met_by t o x) (λ os. happen t x.event os s))
      → Agree (met_by t o x) (met_by t o (entry_from t s x.event a.outcomes))
  unfolding heeded
  fed-agrees s x a =
      let y = entry_from t s x.event a.outcomes in
      split (eqb (edition t) 2)
      (λ e. let all : heeded t a.outcomes ≡ a.outcomes = rw e in
      let same : met_by t o y ≡ a.meets = rw all (fed-meets a) in
      rw same a.agrees)
      (λ e. agree-zeros (met_by t o x) (met_by t o y) (met-zeros t o x (rw e)) (met-zeros t o y (rw e)))

  pub again : (s : List ℕ) (x : Entry) → refused_event t x.outcomes x.event ≡ 0 → Again t o s x
  again s x z =
      let w = taken-event t x.outcomes x.event z in
      let fed = happen-fed t o x.event w s (met_by t o x) in
      record {
        outcomes = fed.outcomes;
        taken = taken-with t fed.outcomes x.event w (small-known fed.outcomes (fed.small (met-small x z)));
        agrees = fed-agrees s x fed;
      }

  strangers-more : (s : List ℕ) (x : Entry) (xs : List Entry) → strangers_entry o x ≡ true → Partner t o (Log t s) xs → Partner t o (Log t s) (x ∷ xs)
  unfolding struck_out met_in
  strangers-more s x xs k p =
      record {
        log = p.log;
        went = p.went;
        own = p.own;
        meets = record { events = rw (k, struck_out) p.meets.events; outcomes = rw (k, met_in) p.meets.outcomes };
      }

  kept_more : (s : List ℕ) (x : Entry) (xs : List Entry) → strangers_entry o x ≡ false → (a : Again t o s x)
      → Partner t o (Log t (entry_from t s x.event a.outcomes).state) xs
      → Partner t o (Log t s) (x ∷ xs)
  unfolding struck_out met_in strangers_entry
  kept_more s x xs k a p =
      record {
        log = entry_from t s x.event a.outcomes ∷ p.log;
        went = (record { taken = a.taken; state = refl; words = refl }, p.went);
        own = (k, p.own);
        meets = record {
          events = rw (k, struck_out) (ap (λ (es : List ℕ). x.event ∷ es) p.meets.events);
          outcomes = rw (k, met_in) (a.agrees, p.meets.outcomes);
        };
      }

  -- from any two states
  pub partner-log : (s₁ s₂ : List ℕ) (xs : List Entry) → Log t s₁ xs → Partner t o (Log t s₂) xs
  unfolding struck_out met_in
  partner-log s₁ s₂ [] l = record { log = []; went = tt; own = tt; meets = record { events = refl; outcomes = tt } }
  partner-log s₁ s₂ (x ∷ xs) l =
      split (strangers_entry o x) (λ k. strangers-more s₂ x xs k (partner-log x.state s₂ xs l.1))
      (λ k. kept_more s₂ x xs k (again s₂ x l.0.taken) (partner-log x.state _ xs l.1))

pub may-meet : (t s : List ℕ) (Went : List Entry → Type 0) → ((ys : List Entry) → Log t s ys → Went ys) → ((xs : List Entry) → Went xs → Log t s xs)
    → MayMeet t Went
may-meet t s Went went log =
    record {
      none_read = none_read_lem t;
      first_edition = none-in-first t;
      played = none-in-play t;
      partner = λ o xs w. let p = partner-log t o s s xs (log xs w) in record { log = p.log; went = went _ p.went; own = p.own; meets = p.meets };
    }
