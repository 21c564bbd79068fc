-- Calls and blocks one after the other print what `printed` says of the whole, and none is ever stuck. Assumes nothing.
use Prim.Native.Nat.{ℕ, zero, suc, ◌+◌, ◌%◌, ◌<◌, ◌≤◌}
use mathlib.Core.Path.{◌≡◌, refl, sym, ap, ◌∙◌}
use mathlib.Core.Bool.{true}
use mathlib.Core.Logic.{◌⊎◌, ⊎_elim}
use mathlib.Core.List.{List, [], ◌∷◌, ◌++◌, append-nil}
use native.Mathlib.Nat.{add-zero}
use native.Mathlib.Omega.{arith}
use lib.ListN.{length, take, drop, take-append-drop}
use lib.Seq.{drop-drop, take-add, take-append_seam}
use lib.Dec.{eqb}
use borrow.Author.Tests.{eq-eqb, le-leb}
use Rattle.rulebook.specs.Reasons.{accepted, verdict, bound}
use Rattle.rulebook.specs.State.{fits, fresh, state_length, fresh_answer, fresh_state}
use Rattle.rulebook.specs.Step.{refused_call}
use Rattle.laws.specs.Callable.{Callable}
use Rattle.laws.proofs.Tests.{split}
use Rattle.laws.proofs.Steps.{step_fits, fresh-fits}
use Rattle.states.specs.Made.{Makes}
use Rattle.text.specs.Words.{words_of}
use Rattle.text.specs.Puts.{lay}
use Rattle.text.proofs.Digits.{below}
use Rattle.std.specs.Prelude.{Ok, Err}
use Rattle.session.specs.declared.Opening.{Opening}
use Rattle.session.specs.declared.Refused.{Refused}
use Rattle.session.specs.declared.Taken.{Taken}
use Rattle.session.specs.Printed.{taken, run_lines, state_after, reason_lines, printed, most}
use Rattle.session.specs.Promises.{Opens, PutLines, Ready, offered, TookEvents}
use Rattle.session.specs.Blocks.{Calls, Blocks}
use Rattle.session.specs.Blocks as blocks
use Rattle.session.proofs.Steps.{ready-is}
use Rattle.session.proofs.Along.{lines-append, state-append, offered-long}

-- the events that are left are those taken and those left then
module _ (t s trace bytes : List ℕ) (from n : ℕ) (within : n ≤ length (offered t s (length trace) bytes from)) where
  pub left-then : drop from (words_of bytes) ≡ take n (offered t s (length trace) bytes from) ++ drop (from + n) (words_of bytes)
  unfolding offered
  left-then =
      split (eqb (refused_call t s (length trace)) 0)
      (λ h. rw h (sym (take-append-drop n (drop from (words_of bytes))) ∙ rw (drop-drop n from (words_of bytes))))
      (λ h. let none : n ≡ 0 = (let w : n ≤ 0 = rw (offered, h) at within in omega arith) in rw (h, none, add-zero))

-- what stands at the front of the bytes after a call
front : {t s trace es out : List ℕ} {r : Taken} {s₁ w₁ o₁ : List ℕ} → TookEvents t s trace es out r s₁ w₁ o₁
    → take r.bytes o₁ ≡ run_lines t s (take r.events es)
unfolding lay
front p = rw (p.lines, p.bytes) (take-append_seam _ _)

pub drop-none : (n : ℕ) (xs : List ℕ) → length xs ≤ n → drop n xs ≡ []
drop-none zero [] h = refl
drop-none zero (x ∷ xs) h = absurd (omega arith)
drop-none (suc n) [] h = refl
drop-none (suc n) (x ∷ xs) h = drop-none n xs (omega arith)

pub calls-print : (t bytes : List ℕ) (from : ℕ) (s ls s₂ : List ℕ) → Calls t bytes from s ls s₂
    → (ls ≡ run_lines t s (drop from (words_of bytes))) × (s₂ ≡ state_after t s (drop from (words_of bytes)))
unfolding run_lines state_after
calls-print t bytes from s ls s₂ (blocks.ended h) = rw (drop-none from (words_of bytes) h) (refl, refl)
calls-print t bytes from s ls s₂ (blocks.call {trace = w} {s₁ = s₁} {r = r} p rest) =
    let es = offered t s (length w) bytes from in
    let i = calls-print t bytes (from + r.events) s₁ _ s₂ rest in
    let next = drop (from + r.events) (words_of bytes) in
    rw (left-then t s w bytes from r.events p.within, lines-append t s (take r.events es) next, state-append t s (take r.events es) next)
    (rw (front p, i.0, p.state), i.1 ∙ rw p.state)

-- The words of two parts of a file, the first of whole words.
words_append : (xs ys : List ℕ) → length xs % 4 ≡ 0 → words_of (xs ++ ys) ≡ words_of xs ++ words_of ys
unfolding words_of
words_append (a ∷ b ∷ c ∷ d ∷ xs) ys h = rw (words_append xs ys (four h))
  where
    four : suc (suc (suc (suc (length xs)))) % 4 ≡ 0 → length xs % 4 ≡ 0
    four h = omega arith
words_append (a ∷ b ∷ c ∷ []) ys h = absurd (omega arith)
words_append (a ∷ b ∷ []) ys h = absurd (omega arith)
words_append (a ∷ []) ys h = absurd (omega arith)
words_append [] ys h = refl

pub two-parts : (xs ys : List ℕ) → (length xs % 4 ≡ 0) ⊎ (ys ≡ []) → words_of (xs ++ ys) ≡ words_of xs ++ words_of ys
unfolding words_of
two-parts xs ys h = ⊎_elim (words_append xs ys) none h
  where
    none : ys ≡ [] → words_of (xs ++ ys) ≡ words_of xs ++ words_of ys
    none e =
        ap (λ (v : List ℕ). words_of (xs ++ v)) e
        ∙ ap words_of (append-nil xs)
        ∙ sym (append-nil (words_of xs))
        ∙ ap (λ (v : List ℕ). words_of xs ++ words_of v) (sym e)

pub blocks-print : (t s file ls : List ℕ) → Blocks t s file ls → ls ≡ run_lines t s (words_of file)
unfolding run_lines words_of
blocks-print t s file ls blocks.ended = refl
blocks-print t s file ls (blocks.block {bytes = bytes} {rest = rest} {s₁ = s₁} whole calls more) =
    let c = calls-print t bytes 0 s _ s₁ calls in
    rw (two-parts bytes rest whole, lines-append t s (words_of bytes) (words_of rest), c.0, blocks-print t s₁ rest _ more, c.1)

-- The program, by what its functions promise.

fresh-printed : (table events ls : List ℕ) → accepted (words_of table) ≡ true → Blocks (words_of table) (fresh (words_of table)) events ls
    → ls ≡ printed table events
unfolding printed
fresh-printed table events ls h b = rw h (blocks-print (words_of table) (fresh (words_of table)) events ls b)

-- what `make_fresh` leaves in as many words as the state has
pub made-fresh : {t s₀ s : List ℕ} {k : ℕ} → accepted t ≡ true → length s₀ ≡ state_length t → Makes t s₀ k s → s ≡ fresh t
unfolding fresh_answer fresh_state
made-fresh {t} {s₀} ok long made = let right = eq-eqb (length s₀) (state_length t) long in rw (ok, right) at made.state

-- sizes from `open`, a state from `make_fresh`, and the file's blocks from there
pub run-printed : (table events ls : List ℕ) {o : Opening} {s₀ s : List ℕ} {k : ℕ} → Opens (words_of table) (Ok o) → length s₀ ≡ o.state
    → Makes (words_of table) s₀ k s → Blocks (words_of table) s events ls → ls ≡ printed table events
run-printed table events ls opens long made b =
    fresh-printed table events ls opens.accepted (rw (made-fresh opens.accepted (long ∙ opens.state) made) at b)

-- a reason from `open`, and the bytes that `lay_reason` lays for it where there is room
pub reason-printed : (table events : List ℕ) {o : Refused} {out : List ℕ} {n : ℕ} {out' : List ℕ} → Opens (words_of table) (Err o)
    → 22 ≤ length out → PutLines 22 (reason_lines (verdict o.reason o.place)) out n out' → take n out' ≡ printed table events
unfolding printed lay
reason-printed table events {out = out} opens room put =
    let fits = le-leb 22 (length out) room in
    rw (opens.refused, rw fits at put.bytes, rw fits at put.count, ← opens.reason, ← opens.place) (take-append_seam _ _)

-- No call is stuck: ready, with an event left and with room for one, it takes one, and what it leaves is ready again.

module _ (t s trace bytes : List ℕ) (from : ℕ) (out : List ℕ) (r : Taken) (s₁ w₁ o₁ : List ℕ)
    (took : TookEvents t s trace (offered t s (length trace) bytes from) out r s₁ w₁ o₁) where
  pub some-taken : Ready t s trace → from < length (words_of bytes) → most ≤ length out → 1 ≤ r.events
  unfolding run_lines
  some-taken ready left room =
      let long = offered-long t s trace bytes from (ready-is t s trace ready) in
      below r.events 1
      (λ none.
      let zero : r.events ≡ 0 = omega arith in
      let full : length out < most = rw zero at (took.full (omega arith)) in
      absurd (omega arith))
      (λ some. some)

fits_after : (t s es : List ℕ) → accepted t ≡ true → fits t s ≡ true → fits t (state_after t s es) ≡ true
unfolding state_after
fits_after t s [] h f = f
fits_after t s (e ∷ es) h f = fits_after t (taken t s e).state es h (step_fits t s _ [] e h f)

-- what events leave of a ready state
pub ready-after : {t s s₁ : List ℕ} {room room₁ : ℕ} (es : List ℕ) → Callable t s room → room₁ ≡ room → s₁ ≡ state_after t s es → Callable t s₁ room₁
ready-after es ready same is =
    record {
      table = ready.table;
      state = rw is (fits_after _ _ es ready.table ready.state);
      enough = let b = ready.enough in omega arith;
    }

pub ready-again : {t s trace es out : List ℕ} {r : Taken} {s₁ w₁ o₁ : List ℕ} → Ready t s trace → length w₁ ≡ length trace
    → TookEvents t s trace es out r s₁ w₁ o₁ → Ready t s₁ w₁
ready-again ready same p = ready-after _ ready same p.state

-- What a caller of many calls keeps: the state is that of the words before the next call's.

module _ (t s trace bytes : List ℕ) (from n : ℕ) (within : n ≤ length (offered t s (length trace) bytes from)) where
  pub next-words : take (from + n) (words_of bytes) ≡ take from (words_of bytes) ++ take n (offered t s (length trace) bytes from)
  unfolding offered
  next-words =
      split (eqb (refused_call t s (length trace)) 0)
      (λ h. rw h (take-add from n (words_of bytes)))
      (λ h. let none : n ≡ 0 = (let w : n ≤ 0 = rw (offered, h) at within in omega arith) in rw (h, none, add-zero) (sym (append-nil _)))

pub state-so-far : (t s₀ s trace bytes : List ℕ) (from : ℕ) {out : List ℕ} {r : Taken} {s₁ w₁ o₁ : List ℕ} → s ≡ state_after t s₀ (take from (words_of bytes))
    → TookEvents t s trace (offered t s (length trace) bytes from) out r s₁ w₁ o₁ → s₁ ≡ state_after t s₀ (take (from + r.events) (words_of bytes))
state-so-far t s₀ s trace bytes from {r = r} is p =
    p.state
    ∙ ap (λ (v : List ℕ). state_after t v (take r.events (offered t s (length trace) bytes from))) is
    ∙ sym (state-append t s₀ (take from (words_of bytes)) (take r.events (offered t s (length trace) bytes from)))
    ∙ ap (state_after t s₀) (sym (next-words t s trace bytes from r.events p.within))

-- The fresh state is ready.
pub fresh-ready : {t s : List ℕ} {room : ℕ} → accepted t ≡ true → s ≡ fresh t → bound t ≤ room → Callable t s room
fresh-ready {t} ok is enough = record { table = ok; state = rw is (fresh-fits t ok); enough = enough }
