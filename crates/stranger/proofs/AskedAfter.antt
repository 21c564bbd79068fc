-- What a network is asked changes only by lists: after an event it is what the last trace word that asks it asks for, what it was
-- where none does. Assumes nothing.
use mathlib.Core.Path.{◌≡◌, refl, sym, ◌∙◌, ap}
use mathlib.Core.Bool.{true, ◌&&◌}
use mathlib.Core.List.{List, [], ◌∷◌}
use Prim.Native.Nat.{ℕ, ◌≤◌, ◌<◌}
use native.Mathlib.Omega.{arith}
use lib.ListN.{set}
use lib.Seq.{get_or-set_same, get_or-set_other}
use lib.Dec.{leb, eqb}
use borrow.Author.Tests.{eqb-true, eqb-false}
use Rattle.rulebook.specs.Words.{word, digit}
use Rattle.rulebook.specs.Table.{ports, networks, sources, port_kind, port_event, port_timer, network_port, source_port}
use Rattle.rulebook.specs.Reasons.{accepted}
use Rattle.rulebook.specs.State.{fresh, network_index, source_index, value_of, asked_none}
use Rattle.rulebook.specs.State.{status_pending, timer_started, Network, network_of, pack_network}
use Rattle.rulebook.specs.Lists.{Run, start, set_port, network_in, set_network}
use Rattle.rulebook.specs.Events.{event_index, event_value, only, request, status_in, set_source, move_source, shown, move_network, ticked_network}
use Rattle.rulebook.specs.Events.{tick_network, remaining_in, tick_source, tick_timer, tick_things, arbitrate_marked, tick, happen}
use Rattle.laws.specs.Facts.{Facts}
use Rattle.laws.proofs.Tests.{split}
use Rattle.laws.proofs.Facts.{facts}
use Rattle.laws.proofs.Steps.{fresh-fits}
use Rattle.laws.proofs.Walks.{each_keeps}
use Rattle.laws.proofs.Fields.{digit-small}
use Rattle.laws.proofs.Fit.{NetworkOk, network-again, network-small, fits-length}
use Rattle.laws.proofs.FitKept.{Fits, network-in}
use Rattle.laws.proofs.FitEvents.{may-show, things-fit, ticked-ok, tick-network-fits, request-cases, source-to, network-to}
use Rattle.laws.proofs.Happen.{Taken, Event, a_tick, a_mode, a_request, of_source, of_network, event}
use Rattle.stranger.specs.Logs.{Entry, Log, state_after}
use Rattle.stranger.specs.Demand.{last_asked, last_asked_in}
use Rattle.stranger.proofs.Logs.{taken, entry-fits}
use Rattle.stranger.proofs.Shows.{fresh-network}
use Rattle.stranger.proofs.Ticked.{ticked-cases}
use Rattle.stranger.proofs.Asked.{asked-last}

ticked-asked : (t : List ℕ) (n : ℕ) (c : Network) → (ticked_network t n c).asked ≡ c.asked
ticked-asked t n c = ticked-cases t n c (λ x. x.asked ≡ c.asked) (λ st k r from. refl) (λ other. refl)

module _ (t : List ℕ) (f : Facts t) (n : ℕ) (b : n < networks t) where
  abbrev Asks : ℕ → List ℕ → Type 0
  Asks a s = (network_in t n s).asked ≡ a

  asks-other : (a j w : ℕ) (s : List ℕ) → (network_index t n ≡ j → ⊥) → Asks a s → Asks a (set s j w)
  asks-other a j w s d h = ap (λ (x : ℕ). (network_of x).asked) (get_or-set_other s j (network_index t n) w 0 d) ∙ h

  asks-port : (a p m v r : ℕ) (s : List ℕ) → p < ports t → Asks a s → Asks a (set_port p m v r s)
  unfolding set_port
  asks-port a p m v r s c h = asks-other a p _ s (λ z. omega arith) h

  asks-source : (a k status r : ℕ) (s : List ℕ) → k < sources t → Asks a s → Asks a (move_source t k status r s)
  unfolding move_source set_source
  asks-source a k status r s c h =
      let one : Asks a (set_source t k status r s) = asks-other a (source_index t k) _ s (λ z. omega arith) h in
      split (eqb status (status_in t k s)) (λ e. rw e one)
      (λ e. rw e (asks-port a (source_port t k) _ _ _ _ (may-show t _ (f.source k c).may).there one))

  -- a network that is moved keeps what it is asked
  asks-network : (a m : ℕ) (c : Network) (s : List ℕ) → m < networks t → Fits t s → NetworkOk t m c → c.asked ≡ (network_in t m s).asked → Asks a s
      → Asks a (move_network t m c s)
  unfolding move_network set_network
  asks-network a m c s u fit ok same h =
      let len = fits-length t s fit in
      let one : Asks a (set_network t m c s) = split (eqb m n)
      (λ e. let is : m ≡ n = eqb-true _ _ e in
      rw is (ap (λ (x : ℕ). (network_of x).asked) (get_or-set_same s (network_index t n) (pack_network c) 0 (omega arith)) ∙ ap (λ (x : Network). x.asked)
      (network-again c (network-small t m c ok)) ∙ (rw is at same) ∙ h))
      (λ e. let d : (m ≡ n → ⊥) = eqb-false _ _ e in asks-other a (network_index t m) _ s (λ z. d (omega arith)) h) in
      split (eqb (shown c.state) (shown (network_in t m s).state)) (λ e. rw e one)
      (λ e. rw e (asks-port a (network_port t m) _ _ _ _ (may-show t _ (f.network m u).may).there one))

  asks-ticked : (a m : ℕ) (s : List ℕ) → m < networks t → Fits t s → Asks a s → Asks a (tick_network t m s)
  unfolding tick_network
  asks-ticked a m s u fit h = asks-network a m _ s u fit (ticked-ok t f m _ u (network-in t s fit m u)) (ticked-asked t m _) h

  asks-tick-source : (a k : ℕ) (s : List ℕ) → k < sources t → Asks a s → Asks a (tick_source t k s)
  unfolding tick_source
  asks-tick-source a k s c h =
      split (eqb (status_in t k s) status_pending)
      (λ e. split (leb (remaining_in s (source_index t k)) 1) (λ d. rw (e, d) (asks-source a k _ _ s c h)) (λ d. rw (e, d) (asks-source a k _ _ s c h)))
      (λ e. rw e h)

  asks-timer : (a p : ℕ) (s : List ℕ) → p < ports t → Asks a s → Asks a (tick_timer t p s)
  unfolding tick_timer
  asks-timer a p s c h =
      split (eqb (port_kind t p) port_timer && eqb (value_of (word s p)) timer_started)
      (λ e. split (leb (remaining_in s p) 1) (λ d. rw (e, d) (asks-port a p _ _ _ s c h)) (λ d. rw (e, d) (asks-port a p _ _ _ s c h)))
      (λ e. rw e h)

  asks-things : (a : ℕ) (s : List ℕ) → Fits t s → Asks a s → Asks a (tick_things t s)
  unfolding tick_things
  asks-things a s fit h =
      each_keeps (Asks a) (tick_timer t) 0 (ports t) _ (λ p x u v. asks-timer a p x (omega arith))
      (each_keeps (Asks a) (tick_source t) 0 (sources t) _ (λ k x u v. asks-tick-source a k x (omega arith))
      (each_keeps (λ x. Fits t x × Asks a x) (tick_network t) 0 (networks t) s
      (λ m x u v w. (tick-network-fits t f m x (omega arith) w.0, asks-ticked a m x (omega arith) w.0 w.1)) (fit, h)).1)

  -- after a run from s it is asked for what the run's words last asked for
  abbrev AskedBy : List ℕ → Run → Type 0
  AskedBy s x = (network_in t n x.state).asked ≡ last_asked n (network_in t n s).asked x.words

  -- one event
  pub asked-after : (e : ℕ) (os s : List ℕ) → Taken t e → Fits t s
      → (network_in t n (happen t e os s).state).asked ≡ last_asked n (network_in t n s).asked (happen t e os s).words
  asked-after e os s w fit = go (happen t e) (event t e w)
    where
      by-request : (q v : ℕ) → q < ports t → (port_kind t q ≡ port_timer → ⊥) → v < 256 → (port_kind t q ≡ port_event → v ≤ 1)
          → AskedBy s (request t q v os s)
      by-request q v c nt v₈ ev =
          unfold last_asked in
          request-cases t f (AskedBy s) q v os s c nt v₈ ev fit
          (λ fit₁. asks-port _ q _ _ _ s c refl) (λ fit₁. asked-last t f n b _ (only q) os _ fit₁ (asks-port _ q _ _ _ s c refl))

      go : (g : List ℕ → List ℕ → Run) → Event t e g → AskedBy s (g os s)
      go g (a_tick k o) = unfold tick arbitrate_marked in asked-last t f n b _ _ os _ (things-fit t f s fit) (asks-things _ s fit refl)
      go g (a_mode k of m free) =
          by-request (event_index e) (event_value e) of.there (λ z. omega arith) (digit-small _ 256 _ (omega arith)) (λ z. absurd (omega arith))
      go g (a_request k of m) = by-request (event_index e) 1 of.there (λ z. omega arith) (omega arith) (λ z. omega arith)
      go g (of_source k free of u c) =
          unfold last_asked in source-to t f (λ x. AskedBy s (start os x)) e s u c (λ status r ok. asks-source _ (event_index e) status r s of.there refl) refl
      go g (of_network k of u c) =
          unfold last_asked in
          network-to t f (λ x. AskedBy s (start os x)) e s u c of.there fit
          (λ x ok same. asks-network _ (event_index e) x s of.there fit ok same refl) refl

-- a log
pub asked_in : (t : List ℕ) → accepted t ≡ true → (n : ℕ) → n < networks t → (s : List ℕ) (xs : List Entry) → Log t s xs → Fits t s
    → (network_in t n (state_after s xs)).asked ≡ last_asked_in n (network_in t n s).asked xs
unfolding state_after last_asked_in
asked_in t h n b s [] l fit = refl
asked_in t h n b s (x ∷ xs) l fit =
    let f = l.0 in
    let one : (network_in t n x.state).asked ≡ last_asked n (network_in t n s).asked x.words =
    ap (λ (y : List ℕ). (network_in t n y).asked) f.state
    ∙ asked-after t (facts t h) n b x.event _ s (taken f) fit
    ∙ ap (λ (ws : List ℕ). last_asked n (network_in t n s).asked ws) (sym f.words) in
    asked_in t h n b x.state xs l.1 (entry-fits t h s x f fit) ∙ ap (λ (a : ℕ). last_asked_in n a xs) one

pub asked-from-fresh : (t : List ℕ) → accepted t ≡ true → (n : ℕ) → n < networks t → (xs : List Entry) → Log t (fresh t) xs
    → (network_in t n (state_after (fresh t) xs)).asked ≡ last_asked_in n asked_none xs
unfolding digit
asked-from-fresh t h n b xs l =
    asked_in t h n b (fresh t) xs l (fresh-fits t h) ∙ ap (λ (w : ℕ). last_asked_in n (network_of w).asked xs) (fresh-network t n b)
