-- One play in room for all its events: it is any play that is not full, it is a full one resumed, and the plays of a file's blocks make
-- it. Nothing is asked of table and state: where they do not stand, every play ends at once. Assumes nothing.
use Prim.Native.Nat.{ℕ, ◌+◌, ◌*◌, ◌≤◌}
use mathlib.Core.Path.{◌≡◌, sym, ap, ◌∙◌}
use mathlib.Core.Bool.{true}
use mathlib.Core.List.{List, [], ◌++◌}
use native.Mathlib.Nat.{add-mul}
use native.Mathlib.Omega.{arith}
use lib.ListN.{length, drop, length-append}
use Rattle.rulebook.specs.Reasons.{accepted, bound}
use Rattle.rulebook.specs.State.{fits}
use Rattle.rulebook.specs.Step.{refused_state}
use Rattle.rulebook.specs.Play.{Play, ending, onto, play_on, play}
use Rattle.laws.proofs.Play.{by-standing, state-small, stands, stood-table, stood-state, play-stands, play-unadmitted}
use Rattle.laws.proofs.Play.{plays-none, kept, resumed, enough-room, alike, some-taken, goes_on_lem, stops}
use Rattle.day.specs.Printed.{whole}

module _ (t s : List ℕ) (room : ℕ) (es : List ℕ) where
  pub words-in-room : length (play t s room es).words ≤ room
  words-in-room =
      by-standing t s
      (λ z. rw (play-stands t s z room es) (kept t (stood-table t s z) es s room (stood-state t s z)).words)
      (λ n. rw (play-unadmitted t s n room es) (omega arith))

  pub taken-within : (play t s room es).taken ≤ length es
  taken-within =
      by-standing t s
      (λ z. rw (play-stands t s z room es) (kept t (stood-table t s z) es s room (stood-state t s z)).within)
      (λ n. rw (play-unadmitted t s n room es) (omega arith))

  -- what a play leaves stands again
  pub stands_after : refused_state t s ≡ 0 → refused_state t (play t s room es).state ≡ 0
  stands_after z =
      let ok = stood-table t s z in
      rw (play-stands t s z room es) (stands t _ ok (kept t ok es s room (stood-state t s z)).state)

  -- a full play in a room of B words at least has taken an event
  pub full-takes : refused_state t s ≡ 0 → bound t ≤ room → (play t s room es).answer ≡ 3 → 1 ≤ (play t s room es).taken
  full-takes z = rw (play-stands t s z room es) (some-taken t (stood-table t s z) es s room (stood-state t s z))

  full-stands : (play t s room es).answer ≡ 3 → refused_state t s ≡ 0
  full-stands f =
      by-standing t s (λ z. z)
      (λ n. let small = state-small t s in let e = ap (λ (p : Play). p.answer) (sym (play-unadmitted t s n room es)) ∙ f in absurd (omega arith))

module _ (t s es : List ℕ) where
  pub whole-stands : refused_state t s ≡ 0 → whole t s es ≡ play_on t es s (length es * bound t)
  unfolding whole
  whole-stands z = play-stands t s z (length es * bound t) es

  whole-unadmitted : (refused_state t s ≡ 0 → ⊥) → whole t s es ≡ ending (refused_state t s) s
  unfolding whole
  whole-unadmitted n = play-unadmitted t s n (length es * bound t) es

  whole-not-full : refused_state t s ≡ 0 → (whole t s es).answer ≡ 3 → ⊥
  whole-not-full z = rw (whole-stands z) (enough-room t (stood-table t s z) es s (length es * bound t) (stood-state t s z) (omega arith))

  whole_from : refused_state t s ≡ 0 → (room : ℕ) → ((play_on t es s room).answer ≡ 3 → ⊥) → play_on t es s room ≡ whole t s es
  whole_from z room n =
      alike t (stood-table t s z) es s room (length es * bound t) (stood-state t s z) n (rw (whole-stands z) at (whole-not-full z))
      ∙ sym (whole-stands z)

  -- a play that is not full
  pub whole_is : (room : ℕ) → ((play t s room es).answer ≡ 3 → ⊥) → play t s room es ≡ whole t s es
  whole_is room n =
      by-standing t s
      (λ z. play-stands t s z room es ∙ whole_from z room (rw (play-stands t s z room es) at n))
      (λ m. play-unadmitted t s m room es ∙ sym (whole-unadmitted m))

module _ (t s : List ℕ) (z : refused_state t s ≡ 0) where
  abbrev ok : accepted t ≡ true
  ok = stood-table t s z

  abbrev fit : fits t s ≡ true
  fit = stood-state t s z

  -- a play in enough room, behind n events that wrote ws and made v visits
  behind : (es fs ws : List ℕ) (n v room left : ℕ) (s' : List ℕ) → length es * bound t ≤ room → refused_state t s' ≡ 0
      → play_on t es s room ≡ onto n ws v (play_on t fs s' left)
      → whole t s es ≡ onto n ws v (whole t s' fs)
  behind es fs ws n v room left s' enough z' e =
      let full = enough-room t ok es s room fit enough in
      sym (whole_from t s es z room full)
      ∙ e
      ∙ ap (onto n ws v) (whole_from t s' fs z' left (λ f. full (ap (λ (p : Play). p.answer) e ∙ f)))

  resumed-on : (es : List ℕ) (room : ℕ) → (let p = play_on t es s room in
      p.answer ≡ 3 → whole t s es ≡ onto p.taken p.words p.visits (whole t p.state (drop p.taken es)))
  resumed-on es room f =
      let p = play_on t es s room in
      let after = stands t p.state ok (kept t ok es s room fit).state in
      behind es (drop p.taken es) p.words p.taken p.visits (room + length es * bound t) _ p.state (omega arith) after
      (resumed t ok (length es * bound t) es s room fit f)

  on-with : (xs ys : List ℕ) → (let p = whole t s xs in
      p.answer ≡ 0 → whole t s (xs ++ ys) ≡ onto p.taken p.words p.visits (whole t p.state ys))
  on-with xs ys f =
      let room = length (xs ++ ys) * bound t in
      let long : room ≡ length xs * bound t + length ys * bound t = rw length-append (add-mul (length xs) (length ys) (bound t)) in
      let same = whole_from t s xs z room (enough-room t ok xs s room fit (omega arith)) in
      let q = play_on t xs s room in
      let after = stands t q.state ok (kept t ok xs s room fit).state in
      let done : q.answer ≡ 0 = ap (λ (p : Play). p.answer) same ∙ f in
      let all = behind (xs ++ ys) ys q.words q.taken q.visits room _ q.state (omega arith) after (goes_on_lem t ok ys xs s room fit done) in
      all ∙ ap (λ (p : Play). onto p.taken p.words p.visits (whole t p.state ys)) same

  ends-before : (xs ys : List ℕ) → ((whole t s xs).answer ≡ 0 → ⊥) → whole t s (xs ++ ys) ≡ whole t s xs
  ends-before xs ys n =
      let room = length (xs ++ ys) * bound t in
      let long : room ≡ length xs * bound t + length ys * bound t = rw length-append (add-mul (length xs) (length ys) (bound t)) in
      let same = whole_from t s xs z room (enough-room t ok xs s room fit (omega arith)) in
      whole-stands t s (xs ++ ys) z ∙ stops t ok ys xs s room fit (λ f. n (ap (λ (p : Play). p.answer) (sym same) ∙ f)) ∙ same

-- a play that is full is resumed from its state, at the event before which it stopped
pub whole-resumed : (t s : List ℕ) (room : ℕ) (es : List ℕ) → (let p = play t s room es in
    p.answer ≡ 3 → whole t s es ≡ onto p.taken p.words p.visits (whole t p.state (drop p.taken es)))
whole-resumed t s room es f =
    let z = full-stands t s room es f in
    rw (play-stands t s z room es) (resumed-on t s z es room (rw (play-stands t s z room es) at f))

-- Events xs and then ys: ys are played from the state that xs leave, if all xs are done, and else not at all.

pub whole-on : (t s xs ys : List ℕ) → (let p = whole t s xs in
    p.answer ≡ 0 → whole t s (xs ++ ys) ≡ onto p.taken p.words p.visits (whole t p.state ys))
whole-on t s xs ys f =
    by-standing t s (λ z. on-with t s z xs ys f) (λ n. absurd (n (ap (λ (p : Play). p.answer) (sym (whole-unadmitted t s xs n)) ∙ f)))

pub whole-ends : (t s xs ys : List ℕ) → ((whole t s xs).answer ≡ 0 → ⊥) → whole t s (xs ++ ys) ≡ whole t s xs
whole-ends t s xs ys n =
    by-standing t s (λ z. ends-before t s z xs ys n) (λ m. whole-unadmitted t s (xs ++ ys) m ∙ sym (whole-unadmitted t s xs m))

-- no events
pub whole-none : (t s : List ℕ) → refused_state t s ≡ 0 → whole t s [] ≡ ending 0 s
whole-none t s z = whole-stands t s [] z ∙ plays-none t (stood-table t s z) s _

pub whole-leaves : (t s es : List ℕ) → refused_state t s ≡ 0 → refused_state t (whole t s es).state ≡ 0
unfolding whole
whole-leaves t s es z = stands_after t s (length es * bound t) es z
