-- Any two results that the promise allows are equal. Assumes nothing.
use Prim.Native.Nat.{ℕ}
use mathlib.Core.Path.{◌≡◌, sym, ◌∙◌}
use mathlib.Core.List.{List}
use Rattle.recording.specs.Promises.{ReadsRecordingIn}

pub one-recording : {bytes : List ℕ} {at : ℕ} {lent : List ℕ} {f f' a a' n n' to to' : ℕ} {after after' : List ℕ}
    → ReadsRecordingIn bytes at lent f a n to after → ReadsRecordingIn bytes at lent f' a' n' to' after'
    → (f ≡ f') × (a ≡ a') × (n ≡ n') × (to ≡ to') × (after ≡ after')
one-recording p q = (
  p.found ∙ sym q.found,
  p.answer ∙ sym q.answer,
  p.count ∙ sym q.count,
  p.next ∙ sym q.next,
  p.words ∙ sym q.words,
)
