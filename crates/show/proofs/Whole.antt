-- What the program prints: call after call it is the definition's. Assumes nothing.
use Rattle.std.proofs.Common.{◌≡◌, ℕ, Bool, true, false, cond, not, List, [], ◌++◌, take, refl}
use lib.Seq.{take-append_seam}
use Rattle.rulebook.specs.Marked.{same}
use Rattle.rulebook.specs.Reasons.{accepted}
use Rattle.rulebook.specs.State.{fresh}
use Rattle.text.specs.Words.{words_of}
use Rattle.session.specs.Printed.{taken}
use Rattle.panel.specs.Printed.{panel, operator}
use Rattle.show.specs.declared.follow.Changed.{Changed}
use Rattle.show.specs.Printed.{panel_behind, event_line, change, followed, following, behind_last, shown}
use Rattle.show.specs.Promises.{Took, LaysChange}
use Rattle.show.specs.Kept.{Leaves}
use Rattle.show.specs.Calls.{Follows}
use Rattle.show.specs.Calls as calls

-- the words that an event wrote stand at the front
words-front : {t s trace s₁ trace₁ : List ℕ} {e n : ℕ} → Took t e s trace n s₁ trace₁ → take n trace₁ ≡ (taken t s e).words
words-front {t} {s} {e = e} took = rw (took.count, took.words) (take-append_seam (taken t s e).words _)

-- the panel that it left
panel-left : (o : ℕ) {t s trace s₁ trace₁ : List ℕ} {e n : ℕ} → Took t e s trace n s₁ trace₁ → panel o t s₁ (take n trace₁) ≡ panel_behind o t s e
unfolding panel_behind
panel-left o took = rw (words-front took, took.state)

by-change : (i : ℕ) (b : Bool) (left : List ℕ) → cond (not b) (event_line i ++ left) [] ≡ cond b [] (event_line i ++ left)
by-change i true left = refl
by-change i false left = refl

-- what is printed of an event is what it changed
changed-lines : (o i : ℕ) {t s ws found : List ℕ} {kept : ℕ} {r : Changed} {found₁ out₁ : List ℕ} → LaysChange o t s ws found kept r found₁ out₁
    → cond r.changed (event_line i ++ take r.kept out₁) [] ≡ change i (take kept found) (panel o t s ws)
unfolding change
changed-lines o i {t} {s} {ws} {found} {kept} laid = rw (laid.changed, laid.laid) (by-change i (same (take kept found) (panel o t s ws)) (panel o t s ws))

-- followed event by event, the lines are those of the definition
pub follow-lines : {o : ℕ} {t : List ℕ} {i : ℕ} {s found es ls : List ℕ} → Follows o t i s found es ls → ls ≡ followed o t i s found es
unfolding followed
follow-lines calls.ended = refl
follow-lines {o} {t} {i} {s} (calls.event {e = e} took laid later) =
    let left = panel-left o took in
    rw (changed-lines o i laid, follow-lines later, laid.left, left, took.state)

-- "`--follow` lays it after each event that changed one of its lines", from the fresh state and its panel on
pub follow-printed : {o : ℕ} (table events : List ℕ) → operator o ≡ true → accepted (words_of table) ≡ true → {ls : List ℕ}
    → Follows o (words_of table) 0 (fresh (words_of table)) (panel o (words_of table) (fresh (words_of table)) []) (words_of events) ls
    → ls ≡ shown true o table events
unfolding shown following
follow-printed table events is stands f = rw (is, stands) (follow-lines f)

-- "the panel after the last event, with the newest step's words"
pub last-printed : (o : ℕ) (table events : List ℕ) → operator o ≡ true → accepted (words_of table) ≡ true → {s' trace' : List ℕ} {n : ℕ}
    → Leaves (words_of table) (fresh (words_of table)) [] (words_of events) s' trace' n
    → panel o (words_of table) s' (take n trace') ≡ shown false o table events
unfolding shown behind_last
last-printed o table events is stands l = rw (is, stands, l.state, l.words)
