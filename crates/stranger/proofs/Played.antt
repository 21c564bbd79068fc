-- The events that a play takes make a log: the one that single calls would leave, with the play's state and joined words. Assumes nothing.
use mathlib.Core.Path.{◌≡◌, refl, sym, ap, ◌∙◌}
use mathlib.Core.Bool.{Bool, true, false}
use mathlib.Core.List.{List, [], ◌∷◌, ◌++◌, append_assoc}
use Prim.Native.Nat.{ℕ}
use native.Mathlib.Numerals.{one-add}
use lib.ListN.{take}
use Rattle.rulebook.specs.Table.{stranger}
use Rattle.rulebook.specs.Reasons.{accepted}
use Rattle.rulebook.specs.State.{fits}
use Rattle.rulebook.specs.Events.{event_owner, happen}
use Rattle.rulebook.specs.Step.{refused_event}
use Rattle.rulebook.specs.Play.{Play, onto, play_on}
use Rattle.laws.specs.Sequence.{Each}
use Rattle.laws.proofs.Tests.{split}
use Rattle.laws.proofs.Play.{none-heeded, play-cases}
use Rattle.laws.proofs.Steps.{none_lent}
use Rattle.stranger.specs.Logs.{Entry, Log, state_after, log_from, joined, strangers_entry, struck_out}

-- Two parts of a log.

pub log-append : (t s es fs : List ℕ) → log_from t s (es ++ fs) ≡ log_from t s es ++ log_from t (state_after s (log_from t s es)) fs
unfolding log_from state_after
log-append t s [] fs = refl
log-append t s (e ∷ es) fs =
    ap (λ (xs : List Entry). record { event = e; outcomes = []; state = (happen t e [] s).state; words = (happen t e [] s).words } ∷ xs)
    (log-append t (happen t e [] s).state es fs)

pub log-together : (t s : List ℕ) (xs ys : List Entry) → Log t s xs → Log t (state_after s xs) ys → Log t s (xs ++ ys)
unfolding state_after
log-together t s [] ys l m = m
log-together t s (x ∷ xs) ys l m = (l.0, log-together t x.state xs ys l.1 m)

pub joined-append : (xs ys : List Entry) → joined (xs ++ ys) ≡ joined xs ++ joined ys
unfolding joined
joined-append [] ys = refl
joined-append (x ∷ xs) ys = ap (λ (ws : List ℕ). x.words ++ ws) (joined-append xs ys) ∙ sym (append_assoc x.words (joined xs) (joined ys))

-- What play p of es from s leaves.
pub record LogOf (t es s : List ℕ) (p : Play) : Type 0 where
  pub log : Log t s (log_from t s (take p.taken es))
  pub state : state_after s (log_from t s (take p.taken es)) ≡ p.state
  pub words : joined (log_from t s (take p.taken es)) ≡ p.words

none-taken : (t es s : List ℕ) (k : ℕ) → LogOf t es s (record { answer = k; taken = 0; state = s; words = []; visits = 0 })
unfolding log_from state_after joined
none-taken t es s k = record { log = tt; state = refl; words = refl }

one_more : (t : List ℕ) (e : ℕ) (es s : List ℕ) (p : Play) → refused_event t [] e ≡ 0 → LogOf t es (happen t e [] s).state p
    → LogOf t (e ∷ es) s (onto 1 (happen t e [] s).words (happen t e [] s).visits p)
unfolding log_from state_after joined
one_more t e es s p z i =
    rw one-add
    (record {
      log = (record { taken = z; state = rw none-heeded; words = rw none-heeded }, i.log);
      state = i.state;
      words = ap (λ (ws : List ℕ). (happen t e [] s).words ++ ws) i.words;
    })

pub log-of-play : (t : List ℕ) → accepted t ≡ true → (es s : List ℕ) (room : ℕ) → fits t s ≡ true → LogOf t es s (play_on t es s room)
log-of-play t ok =
    play-cases t ok (λ es s room p. LogOf t es s p)
    (λ s room f. none-taken t [] s 0)
    (λ e es s room f h. none-taken t (e ∷ es) s 3)
    (λ e es s room f h n a b. none-taken t (e ∷ es) s (refused_event t [] e))
    (λ e es s room k i. one_more t e es s _ k.event i)

-- The events of a log with the strangers' struck out: each is taken, and striking out again takes nothing.

struck-stranger : (o : ℕ) (x : Entry) (xs : List Entry) → strangers_entry o x ≡ true → struck_out o (x ∷ xs) ≡ struck_out o xs
unfolding struck_out
struck-stranger o x xs a = rw (a, struck_out)

struck-own : (o : ℕ) (x : Entry) (xs : List Entry) → strangers_entry o x ≡ false → struck_out o (x ∷ xs) ≡ x.event ∷ struck_out o xs
unfolding struck_out
struck-own o x xs a = rw (a, struck_out)

pub struck-taken : (t s : List ℕ) (o : ℕ) (xs : List Entry) → Log t s xs → Each (λ e. refused_event t [] e ≡ 0) (struck_out o xs)
unfolding struck_out
struck-taken t s o [] l = tt
struck-taken t s o (x ∷ xs) l =
    let later = struck-taken t x.state o xs l.1 in
    split (strangers_entry o x) (λ a. rw (struck-stranger o x xs a) later)
    (λ a. rw (struck-own o x xs a) (none_lent t x.outcomes x.event l.0.taken, later))

-- an entry is a stranger's by its event alone
same-sender : (o e : ℕ) (x : Entry) → x.event ≡ e → (b : Bool) → stranger o (event_owner e) ≡ b → strangers_entry o x ≡ b
unfolding strangers_entry
same-sender o e x is b h = rw is h

entry-sender : (o : ℕ) (x : Entry) (b : Bool) → strangers_entry o x ≡ b → stranger o (event_owner x.event) ≡ b
unfolding strangers_entry
entry-sender o x b h = h

pub struck-again : (t s : List ℕ) (o : ℕ) (xs : List Entry) → struck_out o (log_from t s (struck_out o xs)) ≡ struck_out o xs
unfolding log_from struck_out
struck-again t s o [] = refl
struck-again t s o (x ∷ xs) =
    split (strangers_entry o x)
    (λ a. rw (struck-stranger o x xs a) (struck-again t s o xs))
    (λ a. rw (struck-own o x xs a)
    (struck-own o again (log_from t again.state (struck_out o xs)) (same-sender o x.event again refl false (entry-sender o x false a))
    ∙ ap (λ (es : List ℕ). x.event ∷ es) (struck-again t again.state o xs)))
  where
    again : Entry
    again = record { event = x.event; outcomes = []; state = (happen t x.event [] s).state; words = (happen t x.event [] s).words }
