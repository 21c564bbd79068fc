-- Any two results that a contract allows are equal. Assumes nothing.
use Prim.Native.Nat.{ℕ}
use mathlib.Core.Path.{◌≡◌, sym, ◌∙◌}
use mathlib.Core.List.{List}
use Rattle.text.specs.Words.{Front}
use Rattle.text.specs.Puts.{Put, PutWords}
use Rattle.text.specs.declared.output.Laid.{Laid}

pub one-front : {ws before : List ℕ} {m n : ℕ} {a b : List ℕ} → Front ws before m a → Front ws before n b → (m ≡ n) × (a ≡ b)
one-front p q =
    let e = p.count ∙ sym q.count in
    (e, p.words ∙ rw e (sym q.words))

pub one-put : {line out : List ℕ} {at m n : ℕ} {a b : List ℕ} → Put line out at m a → Put line out at n b → (m ≡ n) × (a ≡ b)
one-put p q = (p.place ∙ sym q.place, p.bytes ∙ sym q.bytes)

pub one-put-words : {out : List ℕ} {at : ℕ} {ws : List ℕ} {from to : ℕ} {r s : Laid} {a b : List ℕ}
    → PutWords out at ws from to r a → PutWords out at ws from to s b → (r.words ≡ s.words) × (r.next ≡ s.next) × (a ≡ b)
one-put-words p q =
    let e = p.count ∙ sym q.count in
    (e, p.place ∙ rw e (sym q.place), p.bytes ∙ rw e (sym q.bytes))
