-- What calls met, word by word, and agreeing as far as both go: it holds of every front, and of two that are equally long it is equality at
-- the next. A run's unread outcomes are those that its words leave. Assumes nothing.
use mathlib.Core.Path.{◌≡◌, refl, sym, ◌∙◌, ap}
use mathlib.Core.Bool.{true, ◌&&◌, not, and-false}
use mathlib.Core.List.{List, [], ◌∷◌, ◌++◌, append-nil, append_assoc}
use Prim.Native.Nat.{ℕ, ◌<◌}
use native.Mathlib.Omega.{arith}
use native.Mathlib.Nat.{mod-eq_of_lt}
use lib.Dec.{eqb}
use borrow.Author.Tests.{ne_eqb}
use Rattle.rulebook.specs.Table.{item_kind, item_call, item_rule, stranger}
use Rattle.rulebook.specs.Lists.{Run, trace_word, trace_list_start, unread, act, judge, trace_owner}
use Rattle.laws.proofs.Tests.{split}
use Rattle.laws.proofs.Fields.{digit-small, trace-kind}
use Rattle.laws.proofs.Runs.{KeptByActs}
use Rattle.stranger.specs.Outcomes.{calls, behind, met_at, met, Agree}

-- Agreeing.

pub agree-front : (ls ms more others : List ℕ) → Agree (ls ++ more) (ms ++ others) → Agree ls ms
agree-front [] ms more others h = tt
agree-front (a ∷ ls) [] more others h = tt
agree-front (a ∷ ls) (b ∷ ms) more others h = (h.0, agree-front ls ms more others h.1)

pub agree-next : (ls : List ℕ) (a b : ℕ) → Agree (ls ++ (a ∷ [])) (ls ++ (b ∷ [])) → a ≡ b
agree-next [] a b h = h.0
agree-next (c ∷ ls) a b h = agree-next ls a b h.1

-- The outcomes that words leave.

unfoldable pub left_by : List ℕ → List ℕ → List ℕ
left_by os [] = os
left_by os (w ∷ ws) = left_by (behind w os) ws

pub left_both : (os xs ys : List ℕ) → left_by os (xs ++ ys) ≡ left_by (left_by os xs) ys
unfolding left_by
left_both os [] ys = refl
left_both os (w ∷ xs) ys = left_both (behind w os) xs ys

pub met-both : (o : ℕ) (os xs ys : List ℕ) → met o os (xs ++ ys) ≡ met o os xs ++ met o (left_by os xs) ys
unfolding met left_by
met-both o os [] ys = refl
met-both o os (w ∷ xs) ys =
    ap (λ (m : List ℕ). met_at o os w ++ m) (met-both o (behind w os) xs ys) ∙ sym (append_assoc (met_at o os w) (met o (behind w os) xs) _)

pub met-one : (o : ℕ) (os : List ℕ) (w : ℕ) → met o os (w ∷ []) ≡ met_at o os w
unfolding met
met-one o os w = append-nil (met_at o os w)

-- a stranger's call meets nothing of o's
pub met-hidden : (o : ℕ) (os : List ℕ) (w : ℕ) → stranger o (trace_owner w) ≡ true → met_at o os w ≡ []
unfolding met_at
met-hidden o os w h = rw (h, and-false)

-- behind the same, one word more: what it meets is the same if it agrees
pub met_next : (o : ℕ) (m us vs : List ℕ) (w : ℕ) → Agree (m ++ met_at o us w) (m ++ met_at o vs w) → met_at o us w ≡ met_at o vs w
unfolding met_at
met_next o m us vs w =
    split (calls w && not (stranger o (trace_owner w))) (λ e. rw e (λ h. ap (λ (a : ℕ). a ∷ []) (agree-next m _ _ h))) (λ e. rw e (λ h. refl))

-- A trace word is a call's exactly if its item is a call.

pub calls-kind : (kind o a b : ℕ) → kind < 16 → calls (trace_word kind o a b) ≡ eqb kind item_call
unfolding calls
calls-kind kind o a b h = rw (trace-kind kind o a b, mod-eq_of_lt h)

pub no_call : (kind o a b : ℕ) → kind < 16 → (kind ≡ item_call → ⊥) → (os : List ℕ) → behind (trace_word kind o a b) os ≡ os
unfolding behind
no_call kind o a b h n os = rw (calls-kind kind o a b h, ne_eqb kind item_call n)

-- A run that started with the outcomes os has those left that its words leave.

pub record Told (os : List ℕ) (x : Run) : Type 0 where
  pub outcomes : x.outcomes ≡ left_by os x.words

pub one_told : (os : List ℕ) (x : Run) (w : ℕ) (us : List ℕ) → Told os x → us ≡ behind w x.outcomes → us ≡ left_by os (x.words ++ (w ∷ []))
unfolding left_by
one_told os x w us h e = e ∙ ap (behind w) h.outcomes ∙ sym (left_both os x.words (w ∷ []))

pub unread-behind : (t : List ℕ) (o i b : ℕ) (os : List ℕ) (a : ℕ) → unread t i os ≡ behind (trace_word (item_kind t i) o a b) os
unfolding unread behind
unread-behind t o i b os a = rw (calls-kind (item_kind t i) o a b (digit-small _ 16 _ (omega arith)))

pub told-kept : (t os : List ℕ) → KeptByActs t (Told os)
unfolding act judge
told-kept t os =
    record {
      list_start = λ l x h q. record { outcomes = one_told os x _ _ q (sym (no_call trace_list_start _ _ _ (omega arith) (λ z. omega arith) _)) };
      act = λ l i x w g h q. record { outcomes = one_told os x _ _ q (unread-behind t _ i _ x.outcomes _) };
      undefined = λ l i x w e q. record { outcomes = one_told os x _ _ q (sym (no_call item_rule _ _ _ (omega arith) (λ z. omega arith) _)) };
      judge = λ l i x w e u q. record { outcomes = one_told os x _ _ q (sym (no_call item_rule _ _ _ (omega arith) (λ z. omega arith) _)) };
    }
