-- A play goes along its events and along the lent trace: the words so far fill the front of the trace, and the next event gets the rest
-- of it. Assumes nothing.
use Rattle.std.proofs.Common.{◌≡◌, ℕ, suc, ◌+◌, ◌-◌, ◌%◌, ◌<◌, ◌≤◌, cond, eqb, Result, Ok, Err, List, [], ◌∷◌, ◌++◌, length, get_or, take, drop, sym, refl, ap, ◌∙◌, append_assoc, append-nil, add-zero, add-one, arith, length-append, length-drop, take-append-drop, drop_of_length-le, length-take-le, take_all, drop-cons, drop-drop, take_at, drop_at}
use native.Mathlib.Nat.{sub-zero, mod-add-mod}
use borrow.Rule.Slice.PartMut.{mid_of, put_mid, put_same}
use Rattle.rulebook.specs.Step.{refused_state, heeded, step}
use Rattle.rulebook.specs.Play.{Play, ending, onto, play_on}
use Rattle.rulebook.proofs.Play.{refused-ends, taken-goes-on}
use Rattle.laws.proofs.Fit.{fits-length}
use Rattle.laws.proofs.Facts.{facts}
use Rattle.laws.proofs.Steps.{small-answer, step-cases, happen-paid, step_fits, refusal-changes-nothing}
use Rattle.laws.proofs.Play.{stood-table, stood-state, play-stands, play-unadmitted, onto-none, onto-onto}
use Rattle.events.specs.declared.Report.{Report}
use Rattle.manager.specs.declared.End.{End}
use Rattle.manager.specs.declared.End.TheVariants.{BadTable, UnfitState, TraceFull, Malformed, NoSuchThing, NotItsOwner}
use Rattle.events.specs.Answers.{Answered, number_of, count_of, visits_of, Reports}
use Rattle.manager.specs.Answers.{end_number}
use Rattle.manager.specs.Promises.{PlaysIn}
use Rattle.manager.proofs.Steps.{refuses}

-- an answer that is not done is not 0
pub not_done : (r : Answered) → ((report : Report) → r ≡ Ok report → ⊥) → number_of r ≡ 0 → ⊥
not_done (Ok report) f z = f report refl
not_done (Err why) f z = refuses why z

-- the words behind the last event are none
pub none-behind : (es : List ℕ) → mid_of (length es) (length es - length es) es ≡ []
none-behind es = let z : length es - length es ≡ 0 = omega arith in rw z

-- table or state does not stand
pub plays-unadmitted : (t s trace es : List ℕ) (k : ℕ) → (refused_state t s ≡ 0 → ⊥) → k ≡ refused_state t s → PlaysIn t s trace es k 0 0 0 s trace
plays-unadmitted t s trace es k n is =
    rw (play-unadmitted t s n (length trace) es) (record { answer = is; taken = refl; count = refl; visits = refl; state = refl; words = refl })

-- what a done call writes has room
words-in-room : (t s : List ℕ) (room e : ℕ) → (step t s room [] e).answer ≡ 0 → length (step t s room [] e).words ≤ room
words-in-room t s room e =
    step-cases (λ r. r.answer ≡ 0 → length r.words ≤ room) t s room [] e (λ k a z. absurd (omega arith))
    (λ c w z. let p = happen-paid t (facts t c.table) e (heeded t []) s in let q = c.enough in omega arith)

-- The whole play of es from s₀ is what was taken so far, with its words at the front of the trace T, and a play of the rest from s in the
-- rest of the trace, which is as it was. The visits made so far are told in 64 bits.
pub record Along (t es s₀ before s T : List ℕ) (taken count visits : ℕ) : Type 0 where
  pub made : ℕ
  pub told : visits ≡ made % 18446744073709551616
  pub whole : play_on t es s₀ (length before) ≡ onto taken (take count T) made (play_on t (drop taken es) s (length before - count))
  pub stood : refused_state t s₀ ≡ 0
  pub stands : refused_state t s ≡ 0
  pub within : taken ≤ length es
  pub kept : drop count T ≡ drop count before
  pub inside : count ≤ length T
  pub long : length T ≡ length before
  pub state_long : length s ≡ length s₀

pub along-none : (t es s T : List ℕ) → refused_state t s ≡ 0 → Along t es s T s T 0 0 0
along-none t es s T z =
    record {
      made = 0;
      told = refl;
      whole = sym (onto-none _) ∙ rw sub-zero;
      stood = z;
      stands = z;
      within = omega arith;
      kept = refl;
      inside = omega arith;
      long = refl;
      state_long = refl;
    }

stands-again : (t s : List ℕ) (room e : ℕ) → refused_state t s ≡ 0 → refused_state t (step t s room [] e).state ≡ 0
unfolding refused_state
stands-again t s room e z = rw (stood-table t s z, step_fits t s room [] e (stood-table t s z) (stood-state t s z))

module _ {t es s₀ before s T : List ℕ} {taken count visits : ℕ} (a : Along t es s₀ before s T taken count visits) where
  abbrev pub part : List ℕ
  part = mid_of count (length T - count) T

  part-is : part ≡ drop count T
  part-is = take_all (length T - count) (drop count T) (let e : length (drop count T) ≡ length T - count = length-drop count T in omega arith)

  part-long : length part ≡ length before - count
  part-long = rw (part-is, length-drop, a.long)

  none_after : drop (length T - count) (drop count T) ≡ []
  none_after = drop_of_length-le (drop count T) {i = length T - count} (let e : length (drop count T) ≡ length T - count = length-drop count T in omega arith)

  front : length (take count T) ≡ count
  front = length-take-le count T a.inside

  -- the play ends here
  tells : (k : ℕ) → play_on t (drop taken es) s (length before - count) ≡ ending k s → PlaysIn t s₀ before es k taken count visits s T
  tells k h =
      rw (play-stands t s₀ a.stood (length before) es, a.whole, h)
      (record {
        answer = refl;
        taken = sym (add-zero taken);
        count = rw append-nil (sym front);
        visits = rw add-zero a.told;
        state = refl;
        words = rw (append-nil, front, ← a.kept) (sym (take-append-drop count T));
      })

  -- no event is left
  pub along-end : length es ≤ taken → PlaysIn t s₀ before es 0 taken count visits s T
  unfolding play_on
  along-end all = tells 0 (rw (drop_of_length-le es {i = taken} all))

  -- event e is next; a single call in the rest of the trace, with no outcomes lent, gave r
  module _ (e : ℕ) (left : taken < length es) (is : e ≡ get_or es taken 0) (s' part' : List ℕ) (r : Answered)
      (os : List ℕ) (none : os ≡ []) (lent : Reports (step t s (length part) os e) part r s' part') where
    told : Reports (step t s (length part) [] e) part r s' part'
    told = rw none at lent

    ahead : play_on t (drop taken es) s (length before - count) ≡ play_on t (e ∷ drop (suc taken) es) s (length part)
    ahead = rw (drop-cons es taken 0 left, ← is, part-long)

    pub not_eight : number_of r ≡ 8 → ⊥
    not_eight z = omega (arith, small-answer t s (length part) e, told.answer, z)

    module _ (n : number_of r ≡ 0 → ⊥) where
      no : (step t s (length part) [] e).answer ≡ 0 → ⊥
      no z = n (told.answer ∙ z)

      unchanged : put_mid count (length T - count) T part' ≡ T
      unchanged =
          ap (put_mid count (length T - count) T)
          (told.words ∙ ap (λ (ws : List ℕ). ws ++ drop (length ws) part) (refusal-changes-nothing t s (length part) [] e no).1)
          ∙ put_same count (length T - count) T

      same-state : s' ≡ s
      same-state = told.state ∙ (refusal-changes-nothing t s (length part) [] e no).0

      -- the call refused it
      pub along-ends : PlaysIn t s₀ before es (number_of r) taken count visits s' (put_mid count (length T - count) T part')
      along-ends =
          rw (unchanged, same-state)
          (tells (number_of r) (ahead ∙ refused-ends t e (drop (suc taken) es) s (length part) no
          ∙ rw ((refusal-changes-nothing t s (length part) [] e no).0, told.answer)))

      pub ends-state-long : length s' ≡ length s₀
      ends-state-long = ap length same-state ∙ a.state_long

      pub ends-long : length (put_mid count (length T - count) T part') ≡ length before
      ends-long = ap length unchanged ∙ a.long

    module _ (n v : ℕ) (z : number_of r ≡ 0) (counted : count_of r ≡ n) (visited : visits_of r ≡ v) where
      abbrev ws : List ℕ
      ws = (step t s (length part) [] e).words

      words_long : length ws ≡ n
      words_long = sym told.count ∙ counted

      abbrev done : List ℕ
      done = take count T ++ ws

      done-long : length done ≡ count + n
      done-long = rw (length-append, front, words_long)

      -- the words had room
      room : count + n ≤ length T
      room =
          let w = words-in-room t s (length part) e (sym told.answer ∙ z) in
          let p = part-long in let l = a.long in let m = words_long in let i = a.inside in omega arith

      part-again : part' ≡ ws ++ drop (count + n) T
      part-again =
          told.words
          ∙ ap (λ (k : ℕ). ws ++ drop k part) words_long
          ∙ ap (λ (p : List ℕ). ws ++ drop n p) part-is
          ∙ ap (λ (p : List ℕ). ws ++ p) (drop-drop n count T)

      whole_again : put_mid count (length T - count) T part' ≡ done ++ drop (count + n) T
      whole_again =
          rw (none_after, append-nil)
          (ap (λ (p : List ℕ). take count T ++ p) part-again ∙ sym (append_assoc (take count T) ws (drop (count + n) T)))

      -- the play of the events behind it
      abbrev behind : ℕ → ℕ → Play
      behind k left = play_on t (drop k es) (step t s (length part) [] e).state left

      abbrev seen : ℕ
      seen = a.made + (step t s (length part) [] e).visits

      goes_on : onto (taken + 1) done seen (behind (suc taken) (length part - length ws))
          ≡ onto (taken + 1) (take (count + n) (done ++ drop (count + n) T)) seen (behind (taken + 1) (length before - (count + n)))
      goes_on =
          ap (λ (k : ℕ). onto (taken + 1) done seen (behind (suc taken) k)) (let p = part-long in let w = words_long in omega arith)
          ∙ ap (λ (k : ℕ). onto (taken + 1) done seen (behind k (length before - (count + n)))) (sym (add-one taken))
          ∙ ap (λ (v : List ℕ). onto (taken + 1) v seen (behind (taken + 1) (length before - (count + n))))
          (sym (take_at done (drop (count + n) T) (count + n) done-long))

      told-again : (visits + v) % 18446744073709551616 ≡ seen % 18446744073709551616
      told-again = rw (a.told, ← visited, told.visits) (mod-add-mod a.made 18446744073709551616 _)

      -- the call took it
      pub along-next : (total : ℕ) → total ≡ (visits + v) % 18446744073709551616
          → Along t es s₀ before s' (put_mid count (length T - count) T part') (taken + 1) (count + n) total
      along-next total wraps =
          let l : length (done ++ drop (count + n) T) ≡ length done + (length T - (count + n)) =
          length-append done (drop (count + n) T) ∙ ap (λ (k : ℕ). length done + k) (length-drop (count + n) T) in
          let d = done-long in
          let g = a.long in
          let h = room in
          rw (whole_again, told.state)
          (record {
            made = seen;
            told = wraps ∙ told-again;
            whole = a.whole
                ∙ ap (onto taken (take count T) a.made) (ahead ∙ taken-goes-on t e (drop (suc taken) es) s (length part) (sym told.answer ∙ z))
                ∙ onto-onto taken 1 (take count T) ws a.made _ _
                ∙ goes_on;
            stood = a.stood;
            stands = stands-again t s (length part) e a.stands;
            within = omega arith;
            kept = drop_at done (drop (count + n) T) (count + n) done-long ∙ sym (drop-drop n count T) ∙ ap (drop n) a.kept ∙ drop-drop n count before;
            inside = omega arith;
            long = omega arith;
            state_long =
                fits-length t _ (stood-state t _ (stands-again t s (length part) e a.stands)) ∙ sym (fits-length t s₀ (stood-state t s₀ a.stood));
          })

-- Two results that the promise allows are equal, in numbers and as answers.

pub one-play : (t s trace es : List ℕ) (k k' n n' m m' v v' : ℕ) (a a' w w' : List ℕ) → PlaysIn t s trace es k n m v a w
    → PlaysIn t s trace es k' n' m' v' a' w' → (k ≡ k') × (n ≡ n') × (m ≡ m') × (v ≡ v') × (a ≡ a') × (w ≡ w')
one-play t s trace es k k' n n' m m' v v' a a' w w' x y = (
  x.answer ∙ sym y.answer,
  x.taken ∙ sym y.taken,
  x.count ∙ sym y.count,
  x.visits ∙ sym y.visits,
  x.state ∙ sym y.state,
  x.words ∙ sym y.words,
)

-- an end has its number alone
answering : ℕ → Result (Unit {0}) End
answering k =
    cond (eqb k 0) (Ok tt)
    (cond (eqb k 1) (Err BadTable)
    (cond (eqb k 2) (Err UnfitState)
    (cond (eqb k 3) (Err TraceFull) (cond (eqb k 4) (Err Malformed) (cond (eqb k 5) (Err NoSuchThing) (Err NotItsOwner))))))

back : (r : Result (Unit {0}) End) → answering (end_number r) ≡ r
unfolding answering
back (Ok u) = refl
back (Err BadTable) = refl
back (Err UnfitState) = refl
back (Err TraceFull) = refl
back (Err Malformed) = refl
back (Err NoSuchThing) = refl
back (Err NotItsOwner) = refl

pub one_end : (a b : Result (Unit {0}) End) → end_number a ≡ end_number b → a ≡ b
one_end a b h = sym (back a) ∙ ap answering h ∙ back b
