-- A stranger's list changes nothing that o sees and writes no trace word of o or of the platform; any other list, run from two
-- runs that are alike to o, leaves them alike if what its calls met agrees. Assumes nothing.
use mathlib.Core.Path.{◌≡◌, refl, sym, ◌∙◌, ap}
use mathlib.Core.Bool.{true, false}
use mathlib.Core.List.{List, [], ◌∷◌, ◌++◌, append-nil}
use Prim.Native.Nat.{ℕ, zero, suc, ◌+◌, ◌≤◌, ◌<◌}
use native.Mathlib.Omega.{arith}
use lib.ListN.{set}
use lib.Dec.{eqb}
use borrow.Author.Tests.{eqb-true}
use Rattle.rulebook.specs.Words.{word, between, until}
use Rattle.rulebook.specs.Table.{rules, lists, port_event, port_timer, rule_owner, no_list, list_owner, first_item, item_count, item_kind, item_a, item_b, item_call}
use Rattle.rulebook.specs.Table.{item_clear, item_start, item_stop, item_ask, item_list, item_rule, stranger}
use Rattle.rulebook.specs.State.{rule_index, network_index, undefined_result}
use Rattle.rulebook.specs.Reasons.{port_of_kind, item_owned}
use Rattle.rulebook.specs.Lists.{Run, emit, trace_word, trace_list_start, set_port, set_network, effect, act, stops, unready, choice_in, set_result, judge, run_choice}
use Rattle.rulebook.specs.Lists.{run_rule, run_item, run_items, run_list, trace_owner}
use Rattle.laws.specs.Facts.{Facts}
use Rattle.laws.proofs.Tests.{split}
use Rattle.laws.proofs.Fields.{digit-small}
use Rattle.laws.proofs.Walks.{until-last, until-next, until-keeps}
use Rattle.laws.proofs.Items.{clear-there, start-there, stop-there, ask-there, list-there, rule-there, port-there, choice-there}
use Rattle.laws.proofs.Cases.{item-list, item-rule, item-act, item-cases, rule-unready, rule-ready, choice-none, choice-some, effect-cases}
use Rattle.laws.proofs.Frame.{Framed, framed-words, framed-until, rule-framed, item-framed, list-framed}
use Rattle.laws.proofs.Runs.{Within, item-there, Keeps, item-keeps, list-keeps}
use Rattle.stranger.specs.View.{SameView}
use Rattle.stranger.specs.Outcomes.{calls, met_at, met, Agree}
use Rattle.stranger.proofs.More.{pick-both}
use Rattle.stranger.proofs.View.{same-view-refl, write-hidden, write-alike, port-word, rule-word, network-word}
use Rattle.stranger.proofs.Outcomes.{agree-next, met-both, met-one, calls-kind, Told, told-kept}
use Rattle.stranger.proofs.Alike.{Alike, word-owner, alike_refl, alike-trans, visits-alike, emit-hidden, AlikeIf, earlier, framed-earlier, put-alike}
use Rattle.stranger.proofs.Evaluation.{unready-alike, result-alike, choice-alike}
use Rattle.stranger.proofs.Owners.{no-platform, list-owned, rule-owned, port-owned, network-owned, choice-owned}

-- a walk that stops goes on behind its first item
record After (x y : Run) : Type 0 where
  more : List ℕ
  is : y.words ≡ x.words ++ more

until-after : (t : List ℕ) (f : ℕ → Run → Run) → ((j : ℕ) → Framed (f j)) → (i n : ℕ) (x : Run) → After (f i x) (until i (suc n) (stops t) f x)
until-after t f framed i n x =
    split (stops t i x)
    (λ e. record { more = []; is = ap (λ (y : Run). y.words) (until-last (stops t) f i n x e) ∙ sym (append-nil _) })
    (λ e. record { more = _; is = ap (λ (y : Run). y.words) (until-next (stops t) f i n x e) ∙ framed-words (framed-until t f (suc i) n framed) (f i x) })

module _ (t : List ℕ) (f : Facts t) (o : ℕ) where
  -- what the item at i of list l may name
  owned : (l i : ℕ) → Within t l i → item_owned t (list_owner t l) i ≡ true
  owned l i w = (f.list l w.list).owned i w.from w.below

  -- A stranger's list, on one side.

  port-hidden : (l i kind v : ℕ) (s : List ℕ) → Within t l i → stranger o (list_owner t l) ≡ true → between item_clear item_stop (item_kind t i) ≡ true
      → port_of_kind t kind (item_a t i) ≡ true → SameView t o s (set s (item_a t i) v)
  port-hidden l i kind v s w h k there =
      write-hidden t o s (item_a t i) v
      (port-word t o (item_a t i) (port-there t kind (item_a t i) there) ∙ rw (port-owned t (list_owner t l) i (owned l i w) (no-platform o _ h) k) h)

  effect-hidden : (l i : ℕ) (s : List ℕ) → Within t l i → stranger o (list_owner t l) ≡ true → SameView t o s (effect t i s)
  unfolding set_port set_network
  effect-hidden l i s w h =
      let there = (f.item i (item-there t f l i w)).1 in
      effect-cases (SameView t o s) t i s
      (λ k. port-hidden l i port_event _ s w h (rw k) (clear-there t i there k))
      (λ k. port-hidden l i port_timer _ s w h (rw k) (start-there t i there k))
      (λ k. port-hidden l i port_timer _ s w h (rw k) (stop-there t i there k))
      (λ k. write-hidden t o s (network_index t (item_a t i)) _
      (network-word t o (item_a t i) (ask-there t i there k) ∙ rw (network-owned t (list_owner t l) i (owned l i w) (no-platform o _ h) k) h))
      (λ k. same-view-refl t o s)

  word-hidden : (os : List ℕ) (l kind a b : ℕ) (x : Run) → stranger o (list_owner t l) ≡ true → Alike t o os os x (emit (trace_word kind (list_owner t l) a b) x)
  word-hidden os l kind a b x h = emit-hidden t o os x _ (rw (word-owner t l kind a b) h)

  abbrev Unseen : List ℕ → (ℕ → Run → Run) → Type 0
  Unseen os below = (l : ℕ) (x : Run) → l < lists t → stranger o (list_owner t l) ≡ true → Alike t o os os x (below l x)

  choice-unseen : (os : List ℕ) (below : ℕ → Run → Run) → Unseen os below → (s : List ℕ) (r : ℕ) (x : Run) → r < rules t → stranger o (rule_owner t r) ≡ true
      → Alike t o os os x (run_choice below (choice_in t s r) x)
  unfolding choice_in
  choice-unseen os below u s r x b h =
      split (eqb (choice_in t s r) no_list) (λ e. rw (choice-none below _ x e) (alike_refl t o os x))
      (λ e. rw (choice-some below _ x e)
      (u _ x (choice-there t r _ _ (f.rule r b) e) (rw (choice-owned t s r (f.rule r b).owned e) h)))

  judge-hidden : (os : List ℕ) (l r : ℕ) (x : Run) → r < rules t → stranger o (list_owner t l) ≡ true → stranger o (rule_owner t r) ≡ true
      → Alike t o os os x (judge t (list_owner t l) r x)
  unfolding judge set_result
  judge-hidden os l r x b h k =
      let w = word-hidden os l item_rule r _ x h in
      record { view = write-hidden t o x.state (rule_index t r) _ (rule-word t o r b ∙ k); own = w.own; met = w.met }

  item-unseen : (os : List ℕ) (below : ℕ → Run → Run) → Unseen os below → (l i : ℕ) (x : Run) → Within t l i → stranger o (list_owner t l) ≡ true
      → Alike t o os os x (run_item below t (list_owner t l) i x)
  unfolding act
  item-unseen os below u l i x w h =
      let there = (f.item i (item-there t f l i w)).1 in
      item-cases below t (list_owner t l) i
      (λ e g. rw (item-list below t (list_owner t l) i x g)
      (u (item_a t i) x (list-there t i there e) (rw (list-owned t (list_owner t l) i (owned l i w) e) h)))
      (λ e g k. let own : stranger o (rule_owner t (item_a t i)) ≡ true = rw (rule-owned t (list_owner t l) i (owned l i w) e) h in
      rw (item-rule below t (list_owner t l) i x g k)
      (split (unready t x.state (item_a t i))
      (λ n. rw (rule-unready below t (list_owner t l) (item_a t i) x n) (word-hidden os l item_rule (item_a t i) undefined_result x h))
      (λ n. rw (rule-ready below t (list_owner t l) (item_a t i) x n)
      (alike-trans t o (judge-hidden os l (item_a t i) x (rule-there t i there e) h own)
      (choice-unseen os below u x.state (item_a t i) _ (rule-there t i there e) own)))))
      (λ g k. rw (item-act below t (list_owner t l) i x g k)
      (let v = word-hidden os l (item_kind t i) (item_a t i) _ x h in record { view = effect-hidden l i x.state w h; own = v.own; met = v.met }))

  pub list-unseen : (os : List ℕ) (d : ℕ) → Unseen os (run_list d t)
  unfolding run_list run_items
  list-unseen os zero l x b h = record { view = same-view-refl t o x.state; own = refl; met = refl }
  list-unseen os (suc d) l x b h =
      until-keeps (λ y. Alike t o os os x y) (stops t) (run_item (run_list d t) t (list_owner t l)) (first_item t l) (item_count t l) _
      (λ i y c e a. alike-trans t o a (item-unseen os (run_list d t) (list-unseen os d) l i y (record { list = b; from = c; below = e }) h))
      (word-hidden os l trace_list_start l 0 x h)

  -- A list of o or of the platform, on both sides. A platform's list may write a stranger's port or network: unseen on both.

  effect-alike : (i : ℕ) {s₁ s₂ : List ℕ} → SameView t o s₁ s₂ → SameView t o (effect t i s₁) (effect t i s₂)
  unfolding effect set_port set_network
  effect-alike i v =
      pick-both (SameView t o) (eqb (item_kind t i) item_clear) (λ e. write-alike t o (item_a t i) _ _ (λ h. refl) v)
      (λ e. pick-both (SameView t o) (eqb (item_kind t i) item_start) (λ e. write-alike t o (item_a t i) _ _ (λ h. refl) v)
      (λ e. pick-both (SameView t o) (eqb (item_kind t i) item_stop) (λ e. write-alike t o (item_a t i) _ _ (λ h. refl) v)
      (λ e. pick-both (SameView t o) (eqb (item_kind t i) item_ask)
      (λ e. write-alike t o (network_index t (item_a t i)) _ _ (λ h. rw (v.same (network_index t (item_a t i)) h)) v)
      (λ e. v))))

  module _ (os₁ os₂ : List ℕ) where
    judge-follows : (l r : ℕ) (x y : Run) → r < rules t → stranger o (rule_owner t r) ≡ false → Alike t o os₁ os₂ x y
        → AlikeIf t o os₁ os₂ (judge t (list_owner t l) r x) (judge t (list_owner t l) r y)
    unfolding judge set_result
    judge-follows l r x y b h a =
        rw (result-alike t f o r b h a.view)
        (λ g. visits-alike t o _ _ (put-alike t o os₁ os₂ x y _ (λ d. write-alike t o (rule_index t r) _ _ (λ k. refl) d.view) (λ e. a) g))

    -- what a list that is named keeps, of runs that started with these outcomes
    abbrev Follows : (ℕ → Run → Run) → Type 0
    Follows below = (l : ℕ) (x y : Run) → l < lists t → stranger o (list_owner t l) ≡ false → Told os₁ x → Told os₂ y → AlikeIf t o os₁ os₂ x y
        → AlikeIf t o os₁ os₂ (below l x) (below l y)

    module _ (below : ℕ → Run → Run) (framed : (l : ℕ) → Framed (below l)) (told₁ : Keeps t f (Told os₁) (told-kept t os₁) below)
        (told₂ : Keeps t f (Told os₂) (told-kept t os₂) below) (u : Follows below) where
      choice-follows : (s : List ℕ) (r : ℕ) (x y : Run) → r < rules t → stranger o (rule_owner t r) ≡ false → Told os₁ x → Told os₂ y
          → AlikeIf t o os₁ os₂ x y
          → AlikeIf t o os₁ os₂ (run_choice below (choice_in t s r) x) (run_choice below (choice_in t s r) y)
      unfolding choice_in
      choice-follows s r x y b h p q a =
          split (eqb (choice_in t s r) no_list) (λ e. rw (choice-none below _ x e, choice-none below _ y e) a)
          (λ e. rw (choice-some below _ x e, choice-some below _ y e)
          (u _ x y (choice-there t r _ _ (f.rule r b) e) (rw (choice-owned t s r (f.rule r b).owned e) h) p q a))

      rule-follows : (l i : ℕ) (x y : Run) → Within t l i → item_kind t i ≡ item_rule → stranger o (rule_owner t (item_a t i)) ≡ false → Told os₁ x → Told os₂ y
          → AlikeIf t o os₁ os₂ x y
          → AlikeIf t o os₁ os₂ (run_rule below t (list_owner t l) (item_a t i) x) (run_rule below t (list_owner t l) (item_a t i) y)
      rule-follows l i x y w is h p q k g =
          let o' = list_owner t l in let r = item_a t i in
          let b = rule-there t i (f.item i (item-there t f l i w)).1 is in
          let a = k (framed-earlier t o os₁ os₂ x y (rule-framed t below framed o' r) (rule-framed t below framed o' r) g) in
          let same : unready t x.state r ≡ unready t y.state r = unready-alike t f o r b h a.view in
          split (unready t x.state r)
          (λ n. let m = sym same ∙ n in
          rw (rule-unready below t o' r x n, rule-unready below t o' r y m)
          (put-alike t o os₁ os₂ x y _ (λ d. d.view) (λ e. a) (rw (rule-unready below t o' r x n, rule-unready below t o' r y m) at g)))
          (λ n. let m = sym same ∙ n in
          rw (rule-ready below t o' r x n, rule-ready below t o' r y m, choice-alike t f o r b h a.view)
          (choice-follows y.state r _ _ b h ((told-kept t os₁).judge l i x w is n p) ((told-kept t os₂).judge l i y w is m q) (judge-follows l r x y b h a)
          (rw (rule-ready below t o' r x n, rule-ready below t o' r y m, choice-alike t f o r b h a.view) at g)))

      item-follows : (l i : ℕ) (x y : Run) → Within t l i → stranger o (list_owner t l) ≡ false → Told os₁ x → Told os₂ y → AlikeIf t o os₁ os₂ x y
          → AlikeIf t o os₁ os₂ (run_item below t (list_owner t l) i x) (run_item below t (list_owner t l) i y)
      unfolding act
      item-follows l i x y w h p q a =
          let there = (f.item i (item-there t f l i w)).1 in
          item-cases below t (list_owner t l) i
          (λ e g. rw (item-list below t (list_owner t l) i x g, item-list below t (list_owner t l) i y g)
          (u (item_a t i) x y (list-there t i there e) (rw (list-owned t (list_owner t l) i (owned l i w) e) h) p q a))
          (λ e g k. rw (item-rule below t (list_owner t l) i x g k, item-rule below t (list_owner t l) i y g k)
          (rule-follows l i x y w e (rw (rule-owned t (list_owner t l) i (owned l i w) e) h) p q a))
          (λ g k. rw (item-act below t (list_owner t l) i x g k, item-act below t (list_owner t l) i y g k)
          (put-alike t o os₁ os₂ x y _ (λ d. effect-alike i d.view) a))

      -- A call of o's or of the platform's: what it meets agrees, so both stop their list or neither does.

      meets-same : (l i : ℕ) (x y : Run) → item_kind t i ≡ item_call → stranger o (list_owner t l) ≡ false → Told os₁ x → Told os₂ y → Alike t o os₁ os₂ x y
          → Agree (met o os₁ (run_item below t (list_owner t l) i x).words) (met o os₂ (run_item below t (list_owner t l) i y).words)
          → word x.outcomes 0 ≡ word y.outcomes 0
      unfolding act met_at
      meets-same l i x y is h p q a g =
          let o' = list_owner t l in
          let no-list : eqb (item_kind t i) item_list ≡ false = rw is in let no-rule : eqb (item_kind t i) item_rule ≡ false = rw is in
          let w = trace_word (item_kind t i) o' (item_a t i) (item_b t i) in
          let call : calls w ≡ true = calls-kind (item_kind t i) o' _ _ (digit-small _ 16 _ (omega arith)) ∙ rw is in
          let own : stranger o (trace_owner w) ≡ false = rw (word-owner t l (item_kind t i) (item_a t i) (item_b t i)) h in
          rw (p.outcomes, q.outcomes)
          (agree-next (met o os₂ y.words) _ _
          (rw (
            item-act below t o' i x no-list no-rule,
            item-act below t o' i y no-list no-rule,
            met-both o os₁ x.words (w ∷ []),
            met-both o os₂ y.words (w ∷ []),
            met-one,
            met-one,
            a.met,
            call,
            own,
          ) at g))

      stops_same : (l i : ℕ) (x y : Run) → stranger o (list_owner t l) ≡ false → Told os₁ x → Told os₂ y → Alike t o os₁ os₂ x y
          → Agree (met o os₁ (run_item below t (list_owner t l) i x).words) (met o os₂ (run_item below t (list_owner t l) i y).words)
          → stops t i x ≡ stops t i y
      unfolding stops
      stops_same l i x y h p q a g =
          split (eqb (item_kind t i) item_call) (λ e. rw (e, meets-same l i x y (eqb-true _ _ e) h p q a g)) (λ e. rw e)

      items-follow : (l i n : ℕ) (x y : Run) → ((j : ℕ) → i ≤ j → j < i + n → Within t l j) → stranger o (list_owner t l) ≡ false → Told os₁ x → Told os₂ y
          → AlikeIf t o os₁ os₂ x y
          → AlikeIf t o os₁ os₂ (until i n (stops t) (run_item below t (list_owner t l)) x) (until i n (stops t) (run_item below t (list_owner t l)) y)
      unfolding until
      items-follow l i zero x y w h p q a g = a g
      items-follow l i (suc n) x y w h p q a g =
          let run = run_item below t (list_owner t l) in
          let here = w i (omega arith) (omega arith) in
          let after = until-after t run (item-framed t below framed (list_owner t l)) i n in
          let item = item-follows l i x y here h p q a in
          let told-x = item-keeps t f (Told os₁) (told-kept t os₁) below told₁ l i x here p in
          let told-y = item-keeps t f (Told os₂) (told-kept t os₂) below told₂ l i y here q in
          let so_far = earlier t o os₁ os₂ (run i x) (run i y) _ _ (rw ((after x).is, (after y).is) at g) in
          let framed-item = item-framed t below framed (list_owner t l) i in
          let same = stops_same l i x y h p q (a (framed-earlier t o os₁ os₂ x y framed-item framed-item so_far)) so_far in
          split (stops t i x)
          (λ e. rw (until-last (stops t) run i n x e, until-last (stops t) run i n y (sym same ∙ e)) (item so_far))
          (λ e. let d = sym same ∙ e in
          rw (until-next (stops t) run i n x e, until-next (stops t) run i n y d)
          (items-follow l (suc i) n (run i x) (run i y) (λ j b c. w j (omega arith) (omega arith)) h told-x told-y item
          (rw (until-next (stops t) run i n x e, until-next (stops t) run i n y d) at g)))

    pub list-follows : (d : ℕ) → Follows (run_list d t)
    unfolding run_list run_items
    list-follows zero l x y b h p q k = λ g. let a = k g in record { view = a.view; own = a.own; met = a.met }
    list-follows (suc d) l x y b h p q a =
        items-follow (run_list d t) (list-framed t d) (list-keeps t f (Told os₁) (told-kept t os₁) d) (list-keeps t f (Told os₂) (told-kept t os₂) d)
        (list-follows d) l (first_item t l) (item_count t l) _ _
        (λ i c e. record { list = b; from = c; below = e }) h ((told-kept t os₁).list_start l x b p) ((told-kept t os₂).list_start l y b q)
        (put-alike t o os₁ os₂ x y _ (λ d. d.view) a)
