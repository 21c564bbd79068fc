-- A run goes along a lent trace and lent outcomes: its words so far fill the front of the trace, the outcomes that it has read are the
-- first ones, and what is still to run gets the rest of both. One invariant for every loop and every call on the tail of a trace, with its
-- start, next and end. Assumes nothing.
use Prim.Native.Nat.{ℕ, ◌+◌, ◌-◌, ◌≤◌, ◌<◌}
use mathlib.Core.Path.{◌≡◌, refl, sym, ap, ◌∙◌}
use mathlib.Core.List.{List, [], ◌++◌, append_assoc, append-nil}
use native.Mathlib.Omega.{arith}
use lib.ListN.{length, take, drop, length-append, length-drop, take-append-drop, drop_of_length-le}
use lib.Seq.{length-take-le, take_all, take_at, drop_at, drop-drop}
use borrow.Rule.Slice.PartMut.{mid_of, put_mid}
use Rattle.rulebook.specs.Lists.{Run, start}
use Rattle.laws.proofs.Frame.{Framed, afresh, framed-words}
use Rattle.lists.specs.declared.Written.{Written}
use Rattle.lists.specs.Runs.{Safe, Ran, Addable, nothing, plus, read_behind}

-- the outcomes behind the first n, as the code lends them
abbrev pub unread : List ℕ → ℕ → List ℕ
unread os n = mid_of n (length os - n) os

pub unread-is : (os : List ℕ) (n : ℕ) → unread os n ≡ drop n os
unread-is os n = take_all (length os - n) (drop n os) (let e : length (drop n os) ≡ length os - n = length-drop n os in omega arith)

-- a run of the outcomes behind those that w has read, after what w has written
abbrev pub joined : Written → Written → Written
joined w v = plus w (read_behind w.read v)

-- the run so far, which has written w: the state s, as its words the first ones of the trace T, the outcomes behind those read, and the visits
abbrev pub sofar : List ℕ → List ℕ → List ℕ → Written → Run
sofar os s T w = record { state = s; words = take w.count T; outcomes = drop w.read os; visits = w.visits }

-- The whole run is `rest` of the run so far, which has written w; from there on the trace is as it was.
pub record Along (os : List ℕ) (whole : Run) (rest : Run → Run) (before s T : List ℕ) (w : Written) : Type 0 where
  pub run : whole ≡ rest (sofar os s T w)
  pub kept : drop w.count T ≡ drop w.count before
  pub inside : w.count ≤ length T
  pub read : w.read ≤ length os
  pub long : length T ≡ length before

same-run : (x : Run) (s w u : List ℕ) (n : ℕ) → x.state ≡ s → x.words ≡ w → x.outcomes ≡ u → x.visits ≡ n
    → x ≡ record { state = s; words = w; outcomes = u; visits = n }
same-run x s w u n a b c d = rw (← a, ← b, ← c, ← d)

-- a run of which another is the beginning: that one is safe too
module _ (whole : Run) (rest : Run → Run) (framed : Framed rest) (x : Run) (run : whole ≡ rest x) (before : List ℕ) (safe : Safe whole before) where
  begin-words : whole.words ≡ x.words ++ (rest (afresh x)).words
  begin-words = ap (λ (y : Run). y.words) run ∙ framed-words framed x

  begin-room : length x.words ≤ length before
  begin-room =
      let a : length whole.words ≤ length before = safe.room in
      let b : length whole.words ≡ length x.words + length (rest (afresh x)).words =
      ap length begin-words ∙ length-append x.words (rest (afresh x)).words in
      omega arith

  begin-few : x.visits + (rest (afresh x)).visits < 4294967296
  begin-few = rw (← ap (λ (y : Run). y.visits) (run ∙ framed x)) safe.few

  pub begin-safe : Safe x before
  begin-safe = record { room = begin-room; few = (let h = begin-few in omega arith) }

-- nothing has run yet
pub along-none : (os : List ℕ) (whole : Run) (rest : Run → Run) (s T : List ℕ) → whole ≡ rest (start os s) → Along os whole rest T s T nothing
along-none os whole rest s T h = record { run = h; kept = refl; inside = omega arith; read = omega arith; long = refl }

-- a run that only changes the state
pub ran-none : (os s T : List ℕ) → Ran os (start os s) s T T nothing
ran-none os s T = record { state = refl; words = refl; count = refl; outcomes = refl; inside = omega arith; visits = refl }

-- what is still to run may be said in another way
pub along-as : (os : List ℕ) (whole : Run) (rest other : Run → Run) (before s T : List ℕ) (w : Written) → rest (sofar os s T w) ≡ other (sofar os s T w)
    → Along os whole rest before s T w → Along os whole other before s T w
along-as os whole rest other before s T w h a = record { run = a.run ∙ h; kept = a.kept; inside = a.inside; read = a.read; long = a.long }

-- nothing is left to run
pub along-end : (os : List ℕ) (whole : Run) (rest : Run → Run) (before s T : List ℕ) (w : Written) → ((x : Run) → rest x ≡ x)
    → Along os whole rest before s T w → Ran os whole s before T w
along-end os whole rest before s T w h a =
    let e : whole ≡ sofar os s T w = a.run ∙ h (sofar os s T w) in
    let n : length (take w.count T) ≡ w.count = length-take-le w.count T a.inside in
    rw e
    (record {
      state = refl;
      words = rw (n, ← a.kept) (sym (take-append-drop w.count T));
      count = sym n;
      outcomes = refl;
      inside = a.read;
      visits = refl;
    })

-- what was written in two parts is counted in 64 bits, for the trace is, and its visits in 32, for those of the whole run are
pub along-addable : (os : List ℕ) (whole : Run) (rest : Run → Run) → Framed rest → (before s T : List ℕ) (a b : Written)
    → Along os whole rest before s T (joined a b) → Safe whole before → length before < 18446744073709551616
    → Addable a (read_behind a.read b)
along-addable os whole rest framed before s T a b x safe h =
    record {
      count = omega (arith, x.inside, x.long);
      visits = (let f = begin-few whole rest framed (sofar os s T (joined a b)) x.run before safe in omega arith);
    }

-- what was read in two parts is counted in 64 bits, for the outcomes are
pub along-readable : (os : List ℕ) (whole : Run) (rest : Run → Run) (before s T : List ℕ) (a b : Written)
    → Along os whole rest before s T (joined a b) → length os < 18446744073709551616 → a.read + b.read < 18446744073709551616
along-readable os whole rest before s T a b x g = omega (arith, x.read)

-- a first part has run on the whole trace
pub along-ran : (os : List ℕ) (whole : Run) (rest : Run → Run) → Framed rest → (x : Run) → whole ≡ rest x → (before s T : List ℕ) (w : Written)
    → Safe whole before → Ran os x s before T w → Along os whole rest before s T w
along-ran os whole rest framed x run before s T w safe r =
    let m : length x.words ≡ w.count = sym r.count in
    let room : length x.words ≤ length before = begin-room whole rest framed x run before safe in
    let e : T ≡ x.words ++ drop w.count before = r.words ∙ ap (λ (k : ℕ). x.words ++ drop k before) m in
    let l : length T ≡ length x.words + (length before - w.count) =
    ap length e ∙ length-append x.words (drop w.count before) ∙ ap (λ (k : ℕ). length x.words + k) (length-drop w.count before) in
    record {
      run = run
          ∙ ap rest (same-run x s (take w.count T) (drop w.read os) w.visits (sym r.state)
          (sym (ap (take w.count) e ∙ take_at x.words (drop w.count before) w.count m))
          (sym r.outcomes) (sym r.visits));
      kept = ap (drop w.count) e ∙ drop_at x.words (drop w.count before) w.count m;
      inside = omega arith;
      read = r.inside;
      long = omega arith;
    }

-- f is next, on the part of the trace behind what w counts, and `rest` comes after it
module _ (os : List ℕ) (whole : Run) (f rest : Run → Run) (ff : Framed f) (fr : Framed rest) (before s T : List ℕ) (w : Written)
    (a : Along os whole (λ x. rest (f x)) before s T w) (safe : Safe whole before) where
  abbrev at : ℕ
  at = w.count

  abbrev part : List ℕ
  part = mid_of at (length T - at) T

  part-is : part ≡ drop at T
  part-is = unread-is T at

  none_after : drop (length T - at) (drop at T) ≡ []
  none_after = drop_of_length-le (drop at T) {i = length T - at} (let e : length (drop at T) ≡ length T - at = length-drop at T in omega arith)

  abbrev here : Run
  here = sofar os s T w

  front : length (take at T) ≡ at
  front = length-take-le at T a.inside

  next-words : (f here).words ≡ take at T ++ (f (afresh here)).words
  next-words = framed-words ff here

  next-room : at + length (f (afresh here)).words ≤ length T
  next-room =
      let r : length (f here).words ≤ length before = begin-room whole rest fr (f here) a.run before safe in
      let e : length (f here).words ≡ length (take at T) + length (f (afresh here)).words =
      ap length next-words ∙ length-append (take at T) (f (afresh here)).words in
      let k = front in
      let g = a.long in
      omega arith

  next-visits : (f here).visits ≡ w.visits + (f (afresh here)).visits
  next-visits = ap (λ (y : Run). y.visits) (ff here)

  next-few : (f (afresh here)).visits < 4294967296
  next-few = let h = begin-few whole rest fr (f here) a.run before safe in let e = next-visits in omega arith

  pub next-safe : Safe (f (afresh here)) part
  next-safe =
      record {
        room = rw part-is (let e : length (drop at T) ≡ length T - at = length-drop at T in let r = next-room in omega arith);
        few = next-few;
      }

  module _ (s' part' : List ℕ) (v : Written) (r : Ran (drop w.read os) (f (afresh here)) s' part part' v) where
    abbrev n : ℕ
    n = v.count

    m : length (f (afresh here)).words ≡ n
    m = sym r.count

    abbrev done : List ℕ
    done = take at T ++ (f (afresh here)).words

    whole_again : put_mid at (length T - at) T part' ≡ done ++ drop (at + n) T
    whole_again =
        rw (none_after, append-nil)
        (ap (λ (p : List ℕ). take at T ++ p) r.words
        ∙ rw (part-is, m, drop-drop)
        (sym (append_assoc (take at T) (f (afresh here)).words (drop (at + n) T))))

    done-long : length done ≡ at + n
    done-long =
        let e : length done ≡ length (take at T) + length (f (afresh here)).words = length-append (take at T) (f (afresh here)).words in
        let k = front in
        let j = m in
        omega arith

    pub next : Along os whole rest before s' (put_mid at (length T - at) T part') (joined w v)
    next =
        let room = next-room in
        let j = m in
        let l : length (done ++ drop (at + n) T) ≡ length done + (length T - (at + n)) =
        length-append done (drop (at + n) T) ∙ ap (λ (k : ℕ). length done + k) (length-drop (at + n) T) in
        let d = done-long in
        let g = a.long in
        rw whole_again
        (record {
          run = a.run
              ∙ ap rest (same-run (f here) s' (take (at + n) (done ++ drop (at + n) T)) (drop (w.read + v.read) os) (w.visits + v.visits)
              (ap (λ (y : Run). y.state) (ff here) ∙ sym r.state)
              (next-words ∙ sym (take_at done (drop (at + n) T) (at + n) done-long))
              (ap (λ (y : Run). y.outcomes) (ff here) ∙ sym r.outcomes ∙ drop-drop v.read w.read os)
              (next-visits ∙ ap (λ (k : ℕ). w.visits + k) (sym r.visits)));
          kept = drop_at done (drop (at + n) T) (at + n) done-long ∙ sym (drop-drop n at T) ∙ ap (drop n) a.kept ∙ drop-drop n at before;
          inside = omega arith;
          read = (let left : length (drop w.read os) ≡ length os - w.read = length-drop w.read os in let h = a.read in let k = r.inside in omega arith);
          long = omega arith;
        })

    -- the trace is as long as it was
    pub next-long : length (put_mid at (length T - at) T part') ≡ length T
    next-long = next.long ∙ sym a.long
