-- Blocks one after the other, each from the state that the one before left. Assumes nothing.
use Rattle.std.proofs.Common.{◌≡◌, ℕ, ◌+◌, ◌≤◌, Bool, true, false, List, [], ◌++◌, length, take, drop, sym, refl, ◌∙◌, subst, append-nil, arith, Result, Ok, Err, take_all}
use lib.Seq.{take-append_seam}
use Rattle.rulebook.specs.Step.{refused_state}
use Rattle.laws.proofs.Steps.{fresh-fits}
use Rattle.states.specs.Made.{Makes}
use Rattle.text.specs.Words.{words_of, Front}
use Rattle.text.proofs.Words.{counted}
use Rattle.session.proofs.Whole.{made-fresh}
use Rattle.laws.proofs.Play.{stands}
use Rattle.day.specs.Printed.{in64}
use Rattle.day.proofs.Playing.{whole-leaves}
use Rattle.play.specs.declared.Count.{Count}
use Rattle.play.specs.Kept.{Loaded, Lent, Ready, Told, TookBlock, Played, Ran}
use Rattle.play.specs.Kept as kept
use Rattle.play.proofs.Parts.{told-on, told_none, room-again}

-- The words of a block.

-- all words are read where there is room for them
all_read : {ws before after : List ℕ} {n : ℕ} → Front ws before n after → length ws ≤ length before → take n after ≡ ws
all_read {ws} {before} {n = n} front room =
    let long : n ≡ length ws = omega (arith, front.count) in
    rw (front.words, take_all n ws (omega arith), long) (take-append_seam ws (drop (length ws) before))

pub took-read : {t s ws before after : List ℕ} {count : ℕ} {going : Bool} {n v k : ℕ} {s' : List ℕ} → Front ws before count after → length ws ≤ length before
    → TookBlock t s (take count after) going n v k s' → TookBlock t s ws going n v k s'
took-read {t} {s} {going = going} {n} {v} {k} {s'} front room took =
    subst (λ (es : List ℕ). TookBlock t s es going n v k s') (all_read front room) took

pub played-read : (t s : List ℕ) {ws before after : List ℕ} {count : ℕ} (r : Result Count Count) (s' : List ℕ) → Front ws before count after
    → length ws ≤ length before → Played t s (take count after) r s' → Played t s ws r s'
played-read t s (Ok c) s' front room took = took-read front room took
played-read t s (Err c) s' front room took = took-read front room took

pub few_words : (n : ℕ) (block : List ℕ) → Loaded n block → length (words_of (take n block)) ≤ 16384
few_words n block loaded = omega (arith, counted (take n block), loaded.bytes.0, loaded.bytes.1, loaded.size)

-- nothing is refused where the number is 0
pub told-done : {t s es : List ℕ} {n v k : ℕ} {s' : List ℕ} → k ≡ 0 → Told t s es n v k s' → Told t s es n v 0 s'
told-done none told = record { taken = told.taken; visits = told.visits; number = sym none ∙ told.number; state = told.state }

-- A run of blocks.

twice : (v w : ℕ) → v ≡ in64 w → in64 v ≡ v
twice v w h = omega arith

-- one that ends with this block
pub ran-end : {t s es : List ℕ} {going : Bool} {n v k : ℕ} {s' : List ℕ} → TookBlock t s es going n v k s' → Ran t s es going n v k s'
ran-end {going = true} {n} {v} {k} {s'} took = kept.past {n = n} {v = v} {k = k} {s' = s'} [] (rw append-nil (took.all refl))
ran-end {going = false} took = kept.stopped took.some

-- one that goes on behind a whole block
pub ran_on : {t s s₁ es fs : List ℕ} {over : Bool} {a u n v k : ℕ} {s' : List ℕ} → Told t s es a u 0 s₁ → Ran t s₁ fs over n v k s'
    → Ran t s es over (a + n) (in64 (u + v)) k s'
ran_on {fs = fs} told (kept.past later next) = kept.past (fs ++ later) (told-on told next)
ran_on {fs = fs} told (kept.stopped some) = kept.past (take some.count fs) (told-on told some.told)

-- one whose block at hand has no bytes is over, and one that takes no further block is not
pub ran-over : {n : ℕ} (t s block : List ℕ) → refused_state t s ≡ 0 → n ≡ 0 → Ran t s (words_of (take n block)) true 0 0 0 s
unfolding words_of
ran-over t s block z none = rw none (kept.past [] (told_none t s z))

pub ran-left : (n : ℕ) (t s block : List ℕ) → refused_state t s ≡ 0 → Ran t s (words_of (take n block)) false 0 0 0 s
ran-left n t s block z = kept.stopped (record { count = 0; told = told_none t s z })

-- visits that are told are told again as they are
pub ran-told : {t s es : List ℕ} {over : Bool} {n v k : ℕ} {s' : List ℕ} → Ran t s es over n v k s' → in64 v ≡ v
ran-told (kept.past later told) = twice _ _ told.visits
ran-told (kept.stopped some) = twice _ _ some.told.visits

-- What a play leaves is ready for the next.
pub ready-after : {t s trace out es : List ℕ} {n v k : ℕ} {s₁ trace₁ out₁ : List ℕ} → Ready t s trace out → Told t s es n v k s₁
    → length trace₁ ≡ length trace → length out₁ ≡ length out → Ready t s₁ trace₁ out₁
ready-after {t} {s} {es = es} ready told long wide =
    record { stands = rw told.state (whole-leaves t s es ready.stands); room = room-again ready.room long wide }

-- the state that `make_fresh` makes in them
pub fresh-ready : {t s₀ s trace out : List ℕ} {k : ℕ} → Lent t s₀ trace out → Makes t s₀ k s → Ready t s trace out
fresh-ready {t} {s = s} lent made =
    let is = made-fresh lent.table lent.state made in
    record { stands = stands t s lent.table (rw is (fresh-fits t lent.table)); room = lent.room }
