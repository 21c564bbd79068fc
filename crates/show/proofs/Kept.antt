-- Events one after the other and blocks one after the other, each from the state that the one before left. Assumes nothing.
use Rattle.std.proofs.Common.{◌≡◌, ℕ, ◌+◌, ◌<◌, ◌≤◌, Bool, true, false, Result, Ok, Err, List, [], ◌∷◌, ◌++◌, length, get_or, take, drop, sym, refl, ap, ◌∙◌, append_assoc, append-nil, add-one, arith, take-append-drop, length-take-le, take-suc}
use lib.Seq.{take-append_seam}
use Rattle.rulebook.specs.State.{fresh}
use Rattle.rulebook.specs.Step.{refused_state}
use Rattle.text.specs.Words.{words_of}
use Rattle.session.specs.Printed.{taken, state_after}
use Rattle.session.specs.Promises.{Ready}
use Rattle.states.specs.Made.{Makes}
use Rattle.session.proofs.Whole.{made-fresh, fresh-ready}
use Rattle.events.specs.Answers.{Tells}
use Rattle.session.proofs.Steps.{traced-long, next-ready, words-few}
use Rattle.session.proofs.Along.{state-append, state-last}
use Rattle.show.specs.declared.Seen.{Seen}
use Rattle.show.specs.Printed.{newest}
use Rattle.show.specs.Promises.{Took, Shown, Watched}
use Rattle.show.specs.Kept.{Lent, Last, Going, TookOne, Leaves, TookSome, TookBlock, Ran, Ended, EndedFresh}
use Rattle.show.specs.Kept as kept

-- what is ready is refused by neither table nor state
pub ready-stands : (t s trace : List ℕ) → Ready t s trace → refused_state t s ≡ 0
unfolding refused_state
ready-stands t s trace r = rw (r.table, r.state)

-- what is told of an event taken
pub reports-took : (t s : List ℕ) {trace : List ℕ} (e : ℕ) {k n v m : ℕ} {s' trace' : List ℕ} → Tells (taken t s e) trace k n v s' trace' → m ≡ n
    → Took t e s trace m s' trace'
reports-took t s e told is = record { count = is ∙ told.count; state = told.state; words = told.words }

-- one event taken where all is in order
module _ {o : ℕ} {t : List ℕ} {e : ℕ} {s trace : List ℕ} {seen : Seen} {found out : List ℕ} (g : Going o t s trace seen found out) {n : ℕ}
    {s' trace' : List ℕ} (k : Took t e s trace n s' trace') where
  pub took-long : length trace' ≡ length trace
  took-long = rw k.words (traced-long t s trace e g.ready)

  pub took-inside : n ≤ length trace'
  took-inside = let few = words-few t s trace e g.ready in let room = g.ready.enough in omega (arith, took-long, k.count)

  took-ready : Ready t s' trace'
  took-ready = rw (k.state, k.words) (next-ready t s trace e g.ready)

  pub took-watched : Watched o t s' (take n trace') found seen.kept out
  took-watched =
      let few = g.few in
      let long = took-long in
      let inside = took-inside in
      record {
        shown = record {
          operator = g.operator;
          stands = ready-stands t s' trace' took-ready;
          few = omega (arith, length-take-le n trace' inside);
          room = g.line;
        };
        bytes = g.bytes;
        room = g.room;
      }

  pub took_one : (events : ℕ) {m : ℕ} {found' out' : List ℕ} → m ≤ length found' → length found' ≡ length found → length out' ≡ length out
      → TookOne o t e s trace (record { events = events; count = n; kept = m }) s' trace' found' out'
  took_one events inside long long₂ =
      let few = g.few in
      let same = took-long in
      let room = g.room in
      let line = g.line in
      record {
        state = k.state;
        words = rw (k.count, k.words) (take-append_seam (taken t s e).words _);
        going = record {
          operator = g.operator;
          ready = took-ready;
          few = omega arith;
          words = took-inside;
          bytes = inside;
          room = omega arith;
          line = omega arith;
        };
      }

-- The loop over a block: i events of es are taken, and s' and the first n words of trace' are what they left.

newest-append : (t s ws xs ys : List ℕ) → newest t s ws (xs ++ ys) ≡ newest t (state_after t s xs) (newest t s ws xs) ys
unfolding newest state_after
newest-append t s ws [] ys = refl
newest-append t s ws (x ∷ xs) ys = newest-append t (taken t s x).state (taken t s x).words xs ys

pub leaves_none : (t s ws trace : List ℕ) (n : ℕ) → take n trace ≡ ws → Leaves t s ws [] s trace n
unfolding state_after newest
leaves_none t s ws trace n e = record { state = refl; words = e }

pub leaves-next : {t s ws xs s₁ trace₁ : List ℕ} {n : ℕ} → Leaves t s ws xs s₁ trace₁ n → (e : ℕ) {s₂ trace₂ : List ℕ} {m : ℕ}
    → s₂ ≡ (taken t s₁ e).state → take m trace₂ ≡ (taken t s₁ e).words
    → Leaves t s ws (xs ++ e ∷ []) s₂ trace₂ m
unfolding newest
leaves-next {t} {s} {ws} {xs} l e is words =
    record {
      state = rw (state-last t s xs e, ← l.state) is;
      words = rw (newest-append t s ws xs (e ∷ []), ← l.state) words;
    }

pub leaves-on : {t s ws xs s₁ trace₁ : List ℕ} {n : ℕ} → Leaves t s ws xs s₁ trace₁ n → {ys s₂ trace₂ : List ℕ} {m : ℕ}
    → Leaves t s₁ (take n trace₁) ys s₂ trace₂ m
    → Leaves t s ws (xs ++ ys) s₂ trace₂ m
leaves-on {t} {s} {ws} {xs} l {ys} r =
    record {
      state = r.state ∙ ap (λ (v : List ℕ). state_after t v ys) l.state ∙ sym (state-append t s xs ys);
      words = r.words ∙ rw (l.words, l.state) (sym (newest-append t s ws xs ys));
    }

-- the first n of es
pub took-first : {t s : List ℕ} (es : List ℕ) (n : ℕ) {s' : List ℕ} → s' ≡ state_after t s (take n es) → TookSome t s es s'
took-first es n is = record { events = take n es; rest = drop n es; first = take-append-drop n es; state = is }

-- a run that goes on behind a whole block
pub ran_on : {t s ws es s₁ trace₁ : List ℕ} {n : ℕ} → Leaves t s ws es s₁ trace₁ n → {fs : List ℕ} {whole : Bool} {s' trace' : List ℕ} {m : ℕ}
    → Ran t s₁ (take n trace₁) fs whole s' trace' m
    → Ran t s ws es whole s' trace' m
ran_on first {fs} (kept.past later next) = kept.past (fs ++ later) (leaves-on first next)
ran_on {t} {s} {ws} {es} first {fs} (kept.stopped later some) =
    kept.stopped (fs ++ later)
    record {
      events = es ++ some.events;
      rest = some.rest;
      first = append_assoc es some.events some.rest ∙ ap (λ (l : List ℕ). es ++ l) some.first;
      state = some.state ∙ ap (λ (v : List ℕ). state_after t v some.events) first.state ∙ sym (state-append t s es some.events);
    }

-- one whose block at hand has no bytes is whole, and one that takes no further block is not
pub ran-over : {n : ℕ} (t s trace block : List ℕ) (m : ℕ) → n ≡ 0 → Ran t s (take m trace) (words_of (take n block)) true s trace m
unfolding words_of
ran-over t s trace block m none = rw none (kept.past [] (leaves_none t s (take m trace) trace m refl))

pub ran-left : (n : ℕ) (t s trace block : List ℕ) (m : ℕ) → Ran t s (take m trace) (words_of (take n block)) false s trace m
unfolding state_after
ran-left n t s trace block m =
    kept.stopped [] record { events = []; rest = words_of (take n block) ++ []; first = refl; state = refl }

-- one event more of a block
pub block-next : {t s₀ ws : List ℕ} (es : List ℕ) (i : ℕ) {s trace : List ℕ} {n : ℕ} → Leaves t s₀ ws (take i es) s trace n → i < length es
    → {e : ℕ} → e ≡ get_or es i 0 → {o : ℕ} {seen : Seen} {s' trace' found' out' : List ℕ}
    → TookOne o t e s trace seen s' trace' found' out'
    → Leaves t s₀ ws (take (i + 1) es) s' trace' seen.count
block-next {t} {s₀} {ws} es i {s} {trace} {n} l inside {e} is {seen = seen} {s'} {trace'} took =
    let more : take (i + 1) es ≡ take i es ++ e ∷ [] = rw (is, add-one, take-suc es i 0 inside) in
    rw more (leaves-next l e took.state took.words)

-- a run that stopped in its first block
pub some_of : {t s ws es s' trace' : List ℕ} {n : ℕ} → TookSome t s es s' → Ran t s ws es false s' trace' n
some_of {es = es} some = kept.stopped [] record { events = some.events; rest = some.rest; first = some.first ∙ sym (append-nil es); state = some.state }

-- The beginning: the fresh state, and no words yet.

pub fresh-shown : {o : ℕ} {t s₀ trace found out : List ℕ} → Lent o t s₀ trace found out → {k : ℕ} {s : List ℕ} → Makes t s₀ k s → (ws : List ℕ) → ws ≡ []
    → Shown o t s ws found
fresh-shown {t = t} {trace = trace} l {s = s} made ws none =
    record {
      operator = l.operator;
      stands = ready-stands t s trace (fresh-ready l.table (made-fresh l.table l.state made) l.room);
      few = rw none (omega arith);
      room = l.bytes;
    }

pub fresh-going : {o : ℕ} {t : List ℕ} {s₀ trace found out : List ℕ} → Lent o t s₀ trace found out → {k : ℕ} {s : List ℕ} → Makes t s₀ k s
    → {kept : ℕ} {found' : List ℕ} → kept ≤ length found' → length found' ≡ length found
    → Going o t s trace (record { events = 0; count = 0; kept = kept }) found' out
fresh-going l made inside long =
    let room = l.bytes in
    record {
      operator = l.operator;
      ready = fresh-ready l.table (made-fresh l.table l.state made) l.room;
      few = l.few;
      words = omega arith;
      bytes = inside;
      room = omega arith;
      line = l.line;
    }

-- the end: the panel behind the last event can be laid
pub going-last : {o : ℕ} {t : List ℕ} {s trace : List ℕ} {seen : Seen} {found out : List ℕ} → Going o t s trace seen found out
    → Last o t s trace seen.count out
going-last {t = t} {s = s} {trace} {seen} g =
    let few = g.few in
    let inside = g.words in
    record {
      inside = inside;
      shown = record {
        operator = g.operator;
        stands = ready-stands t s trace g.ready;
        few = omega (arith, length-take-le seen.count trace inside);
        room = g.line;
      };
    }

-- a run from the fresh state
pub ended-fresh : (o : ℕ) (t s es : List ℕ) (r : Result Seen Seen) (s' trace' found' out' : List ℕ) → s ≡ fresh t
    → Ended o t s [] es r s' trace' found' out' → EndedFresh o t es r s' trace' out'
ended-fresh o t s es (Ok seen) s' trace' found' out' is e = record { last = going-last e.going; ran = rw is at e.ran }
ended-fresh o t s es (Err seen) s' trace' found' out' is e = record { last = going-last e.going; ran = rw is at e.ran }
