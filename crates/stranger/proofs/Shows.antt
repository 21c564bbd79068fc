-- Ports show: in every state of a log from fresh, the port of a network or source has as its value exactly the shown mode or the
-- status, and is defined exactly if some earlier entry changed it. Assumes nothing.
use mathlib.Core.Path.{◌≡◌, refl, sym, ◌∙◌, ap}
use mathlib.Core.Bool.{Bool, true, false, cond}
use mathlib.Core.List.{List, [], ◌∷◌}
use Prim.Native.Nat.{ℕ, ◌<◌}
use native.Mathlib.Omega.{arith}
use native.Mathlib.Nat.{zero-add}
use lib.Dec.{eqb}
use Rattle.rulebook.specs.Words.{word, digit}
use Rattle.rulebook.specs.Table.{networks, sources, network_port, source_port}
use Rattle.rulebook.specs.Reasons.{accepted}
use Rattle.rulebook.specs.State.{network_index, source_index, state_length, defined_of, value_of, network_of, status_of, pack_port, fresh_port, fresh_thing, fresh_at}
use Rattle.rulebook.specs.State.{fresh}
use Rattle.rulebook.specs.Lists.{network_in}
use Rattle.rulebook.specs.Events.{shown}
use Rattle.rulebook.specs.Step.{heeded}
use Rattle.laws.proofs.Tests.{split}
use Rattle.laws.proofs.Walks.{listed_at}
use Rattle.laws.proofs.Parts.{thing-port, thing-network, thing-source}
use Rattle.laws.proofs.Facts.{facts}
use Rattle.laws.proofs.FitKept.{Fits}
use Rattle.laws.proofs.FitEvents.{MayShow, may-show}
use Rattle.laws.proofs.Steps.{fresh-fits}
use Rattle.stranger.specs.Logs.{Entry, Follows, Log, state_after, ran}
use Rattle.stranger.specs.Demand.{mode_to_show, status_to_show, changes, PortShows}
use Rattle.stranger.proofs.Logs.{taken, entry-fits}
use Rattle.stranger.proofs.Moves.{PortMoves, next_network, network-moves, source-moves}

-- one entry
module _ (t : List ℕ) (h : accepted t ≡ true) where
  network-entry : (n : ℕ) → n < networks t → (s : List ℕ) (x : Entry) → Follows t s x → Fits t s
      → PortMoves (network_port t n) (mode_to_show t n s) (mode_to_show t n x.state) s x.state
  unfolding mode_to_show
  network-entry n b s x f fit =
      let m = network-moves t (facts t h) n b x.event _ s (taken f) fit in
      let e : (next_network t (facts t h) n b x.event s).state ≡ (network_in t n (ran t s x).state).state = sym (ap (λ y. y.state) m.own) in
      rw f.state (rw (← e) m.port)

  source-entry : (k : ℕ) → k < sources t → (s : List ℕ) (x : Entry) → Follows t s x → Fits t s
      → PortMoves (source_port t k) (status_to_show t k s) (status_to_show t k x.state) s x.state
  unfolding status_to_show
  source-entry k b s x f fit =
      let m = source-moves t (facts t h) k b x.event (heeded t x.outcomes) s (taken f) fit in
      rw f.state (rw m.own m.port)

-- a log
module _ (t : List ℕ) (h : accepted t ≡ true) (p : ℕ) (look : List ℕ → ℕ)
    (one : (s : List ℕ) (x : Entry) → Follows t s x → Fits t s → PortMoves p (look s) (look x.state) s x.state) where
  value_after : (xs : List Entry) (s : List ℕ) → Log t s xs → Fits t s → value_of (word s p) ≡ look s
      → value_of (word (state_after s xs) p) ≡ look (state_after s xs)
  unfolding state_after
  value_after [] s l fit v = v
  value_after (x ∷ xs) s l fit v = value_after xs x.state l.1 (entry-fits t h s x l.0 fit) ((one s x l.0 fit).value v)

  defined-after : (xs : List Entry) (s : List ℕ) → Log t s xs → Fits t s
      → defined_of (word (state_after s xs) p) ≡ cond (changes look s xs) 1 (defined_of (word s p))
  unfolding state_after changes
  defined-after [] s l fit = refl
  defined-after (x ∷ xs) s l fit =
      let rest = defined-after xs x.state l.1 (entry-fits t h s x l.0 fit) in
      let here = (one s x l.0 fit).defined in
      split (eqb (look x.state) (look s))
      (λ e. rw e (rest ∙ ap (λ (d : ℕ). cond (changes look x.state xs) 1 d) (rw e at here)))
      (λ e. rw e (rest ∙ ap (λ (d : ℕ). cond (changes look x.state xs) 1 d) (rw e at here) ∙ both_one (changes look x.state xs)))
    where
      both_one : (x : Bool) → ◌≡◌ {A = ℕ} (cond x 1 1) 1
      both_one true = refl
      both_one false = refl

-- from fresh: the port reads 0, nothing is shown yet

fresh-word : (t : List ℕ) (i : ℕ) → i < state_length t → word (fresh t) i ≡ fresh_at t i
unfolding fresh
fresh-word t i b = listed_at (fresh_at t) 0 (state_length t) i b ∙ rw (zero-add i)

fresh-showing : (t : List ℕ) (p : ℕ) → MayShow t p → word (fresh t) p ≡ pack_port 0 0 0 0
unfolding fresh_at fresh_thing fresh_port
fresh-showing t p m =
    let there = m.there in
    fresh-word t p (omega arith) ∙ rw (thing-port t p there, m.bare, m.mode)

pub fresh-network : (t : List ℕ) (n : ℕ) → n < networks t → word (fresh t) (network_index t n) ≡ 0
unfolding fresh_at fresh_thing
fresh-network t n b = fresh-word t (network_index t n) (omega arith) ∙ rw (thing-network t n b)

pub fresh-source : (t : List ℕ) (k : ℕ) → k < sources t → word (fresh t) (source_index t k) ≡ 0
unfolding fresh_at fresh_thing
fresh-source t k b = fresh-word t (source_index t k) (omega arith) ∙ rw (thing-source t k)

zero-port : (value_of (pack_port 0 0 0 0) ≡ 0) × (defined_of (pack_port 0 0 0 0) ≡ 0)
unfolding pack_port digit
zero-port = (refl, refl)

shows-after : (t : List ℕ) (h : accepted t ≡ true) (p : ℕ) (look : List ℕ → ℕ)
    → ((s : List ℕ) (x : Entry) → Follows t s x → Fits t s → PortMoves p (look s) (look x.state) s x.state)
    → MayShow t p → look (fresh t) ≡ 0 → (xs : List Entry) → Log t (fresh t) xs → PortShows p look (fresh t) xs
shows-after t h p look one m zero-look xs l =
    let w = fresh-showing t p m in
    record {
      value = value_after t h p look one xs (fresh t) l (fresh-fits t h) (ap (λ (x : ℕ). value_of x) w ∙ zero-port.0 ∙ sym zero-look);
      defined = defined-after t h p look one xs (fresh t) l (fresh-fits t h) ∙ ap (λ (d : ℕ). cond (changes look (fresh t) xs) 1 d)
          (ap (λ (x : ℕ). defined_of x) w ∙ zero-port.1);
    }

pub network-shows : (t : List ℕ) → accepted t ≡ true → (n : ℕ) → n < networks t → (xs : List Entry) → Log t (fresh t) xs
    → PortShows (network_port t n) (mode_to_show t n) (fresh t) xs
unfolding mode_to_show digit shown
network-shows t h n b xs l =
    shows-after t h (network_port t n) (mode_to_show t n) (network-entry t h n b) (may-show t _ ((facts t h).network n b).may)
    (ap (λ (w : ℕ). shown (network_of w).state) (fresh-network t n b)) xs l

pub source-shows : (t : List ℕ) → accepted t ≡ true → (k : ℕ) → k < sources t → (xs : List Entry) → Log t (fresh t) xs
    → PortShows (source_port t k) (status_to_show t k) (fresh t) xs
unfolding status_to_show digit
source-shows t h k b xs l =
    shows-after t h (source_port t k) (status_to_show t k) (source-entry t h k b) (may-show t _ ((facts t h).source k b).may)
    (ap (λ (w : ℕ). status_of w) (fresh-source t k b)) xs l
