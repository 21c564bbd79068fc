-- A trace word of kind 4 for network n has n's owner or the platform's: who asks a network for a mode is no stranger to it. Assumes
-- nothing.
use mathlib.Core.Path.{◌≡◌, refl, sym, ◌∙◌, ap}
use mathlib.Core.Bool.{Bool, true, false, ◌||◌, and-false}
use mathlib.Core.Logic.{inl, inr, ⊎_elim}
use mathlib.Core.List.{List, [], ◌∷◌}
use Prim.Native.Nat.{ℕ, ◌%◌, ◌≤◌, ◌<◌}
use native.Mathlib.Nat.{mod-eq_of_lt}
use native.Mathlib.Omega.{arith}
use lib.Dec.{eqb}
use borrow.Author.Tests.{eqb-true}
use Rattle.rulebook.specs.Table.{networks, network_owner, deferred, list_owner, item_kind, item_a, item_b, item_ask, item_rule, platform, stranger}
use Rattle.rulebook.specs.Lists.{Run, emit, trace_word, trace_list_start, act, judge, trace_kind, trace_owner, trace_a}
use Rattle.rulebook.specs.Arbitration.{arbitrate}
use Rattle.rulebook.specs.Events.{request, tick, arbitrate_marked, happen}
use Rattle.laws.specs.Facts.{Facts}
use Rattle.laws.specs.Sequence.{Each}
use Rattle.laws.proofs.Tests.{split, clash, part_of}
use Rattle.laws.proofs.Fields.{digit-small, trace-kind, trace-a}
use Rattle.laws.proofs.Items.{ask-there}
use Rattle.laws.proofs.Order.{each_both}
use Rattle.laws.proofs.Runs.{Within, item-there, KeptByActs, decide-keeps}
use Rattle.laws.proofs.Happen.{happen-cases}
use Rattle.stranger.specs.Demand.{asks, asks_other, any_word}
use Rattle.stranger.specs.View.{AsksOwn, own_words}
use Rattle.stranger.proofs.More.{pick}
use Rattle.stranger.proofs.Alike.{word-owner}
use Rattle.stranger.proofs.Owners.{self-known, platform-known, network-owned}

module _ (t : List ℕ) (f : Facts t) where
  abbrev AllAskOwn : Run → Type 0
  AllAskOwn x = Each (AsksOwn t) x.words

  emit-asks : (w : ℕ) (x : Run) → AsksOwn t w → AllAskOwn x → AllAskOwn (emit w x)
  emit-asks w x h a = each_both (AsksOwn t) x.words (w ∷ []) a (h, tt)

  -- a word of another kind
  other-kind : (kind o a b : ℕ) → (kind % 16 ≡ item_ask → ⊥) → AsksOwn t (trace_word kind o a b)
  other-kind kind o a b n k = absurd (n (sym (trace-kind kind o a b) ∙ k))

  item-asks : (l i : ℕ) → Within t l i → AsksOwn t (trace_word (item_kind t i) (list_owner t l) (item_a t i) (item_b t i))
  item-asks l i w k =
      let kind : item_kind t i ≡ item_ask = sym (mod-eq_of_lt (digit-small _ 16 _ (omega arith))) ∙ sym
      (trace-kind (item_kind t i) (list_owner t l) (item_a t i) (item_b t i)) ∙ k in
      let there : item_a t i < networks t = ask-there t i (f.item i (item-there t f l i w)).1 kind in
      let few : networks t ≤ 8 = f.counts.networks in
      let number : trace_a (trace_word (item_kind t i) (list_owner t l) (item_a t i) (item_b t i)) ≡ item_a t i = trace-a (item_kind t i) (list_owner t l) (item_a t i)
      (item_b t i) ∙ mod-eq_of_lt (omega arith) in
      let own = word-owner t l (item_kind t i) (item_a t i) (item_b t i) in
      split (eqb (list_owner t l) platform) (λ e. inr (own ∙ eqb-true _ _ e))
      (λ e. inl (own ∙ rw number (sym (network-owned t (list_owner t l) i ((f.list l w.list).owned i w.from w.below) e kind))))

  acts-ask-own : KeptByActs t AllAskOwn
  unfolding act judge
  acts-ask-own =
      record {
        list_start = λ l x h a. emit-asks _ x (other-kind trace_list_start (list_owner t l) l 0 (λ z. omega arith)) a;
        act = λ l i x w g h a. emit-asks _ x (item-asks l i w) a;
        undefined = λ l i x w e a. emit-asks _ x (other-kind item_rule (list_owner t l) (item_a t i) _ (λ z. omega arith)) a;
        judge = λ l i x w e u a. emit-asks _ x (other-kind item_rule (list_owner t l) (item_a t i) _ (λ z. omega arith)) a;
      }

  arbitrate-asks-own : (q : ℕ → Bool) (os s : List ℕ) → AllAskOwn (arbitrate t q os s)
  unfolding arbitrate
  arbitrate-asks-own q os s = decide-keeps t f AllAskOwn acts-ask-own q os _ tt

  request-asks-own : (p v : ℕ) (os s : List ℕ) → AllAskOwn (request t p v os s)
  unfolding request
  request-asks-own p v os s = pick AllAskOwn (eqb (deferred t p) 1) (λ e. tt) (λ e. arbitrate-asks-own _ os _)

  pub happen-asks-own : (e : ℕ) (os s : List ℕ) → AllAskOwn (happen t e os s)
  unfolding tick arbitrate_marked
  happen-asks-own e os s =
      happen-cases AllAskOwn t e os s (λ k. arbitrate-asks-own _ os _) (λ k. request-asks-own _ _ os s) (λ k. request-asks-own _ _ os s) (λ k. tt)

-- So the words of its owner and of the platform tell whether a network is asked for another mode.

asks-no-stranger : (t : List ℕ) (n w : ℕ) → AsksOwn t w → asks_other n w ≡ true → stranger (network_owner t n) (trace_owner w) ≡ false
unfolding asks_other asks
asks-no-stranger t n w h a =
    let kind : trace_kind w ≡ item_ask = eqb-true _ _ (part_of _ (λ e. rw (asks_other, asks, e) at a)) in
    let number : trace_a w ≡ n = eqb-true _ _ (part_of _ (λ e. rw (asks_other, asks, e, and-false) at a)) in
    ⊎_elim (λ e. let own : trace_owner w ≡ network_owner t n = e ∙ ap (network_owner t) number in rw own (self-known (network_owner t n)))
    (λ e. rw e (platform-known (network_owner t n))) (h kind)

pub asks-in-own-words : (t : List ℕ) (n : ℕ) (ws : List ℕ) → Each (AsksOwn t) ws
    → any_word (asks_other n) ws ≡ any_word (asks_other n) (own_words (network_owner t n) ws)
unfolding any_word own_words
asks-in-own-words t n [] a = refl
asks-in-own-words t n (w ∷ ws) a =
    split (stranger (network_owner t n) (trace_owner w))
    (λ e. let silent : asks_other n w ≡ false = split (asks_other n w) (λ d. clash e (asks-no-stranger t n w a.0 d)) (λ d. d) in
    rw (e, own_words, silent) (asks-in-own-words t n ws a.1))
    (λ e. rw (e, own_words) (ap (λ (b : Bool). asks_other n w || b) (asks-in-own-words t n ws a.1)))
