-- A state of 32-bit words stays one, and a trace's new words are such: whatever an event writes is a packed word. Assumes nothing.
use mathlib.Core.Path.{◌≡◌}
use mathlib.Core.Bool.{Bool, true, ◌&&◌}
use mathlib.Core.List.{List, [], ◌∷◌, ◌++◌}
use Prim.Native.Nat.{ℕ, zero, suc, ◌<◌, ◌^◌}
use lib.ListN.{set, drop}
use lib.Dec.{leb, ltb, eqb}
use borrow.Author.Tests.{ltb-true}
use Rattle.rulebook.specs.Words.{word}
use Rattle.rulebook.specs.Table.{ports, networks, sources, port_kind, port_timer, deferred}
use Rattle.rulebook.specs.State.{source_index, value_of, timer_started, Network, status_pending}
use Rattle.rulebook.specs.Lists.{Run, trace_word, set_port, network_in, set_network, set_result, act, judge}
use Rattle.rulebook.specs.Arbitration.{arbitrate}
use Rattle.rulebook.specs.Events.{request, status_in, set_source, move_source, shown, move_network, tick_network, remaining_in, tick_source, tick_timer}
use Rattle.rulebook.specs.Events.{tick_things, arbitrate_marked, tick, happen}
use Rattle.rulebook.specs.Step.{heeded, step}
use Rattle.rulebook.proofs.Width.{port-word, rule-word, network-word, source-word, trace-word}
use Rattle.laws.specs.Facts.{Facts}
use Rattle.laws.proofs.Tests.{split, and_left, and_right}
use Rattle.laws.proofs.Walks.{each_keeps}
use Rattle.laws.proofs.Facts.{facts}
use Rattle.laws.proofs.Order.{each_both}
use Rattle.laws.proofs.Runs.{KeptByActs, decide-keeps, KeptByWrites, arbitrate-keeps}
use Rattle.laws.proofs.FitKept.{Fits}
use Rattle.laws.proofs.FitEvents.{source-to, network-to}
use Rattle.laws.proofs.Happen.{Taken, Event, a_tick, a_mode, a_request, of_source, of_network, event}
use Rattle.laws.proofs.Steps.{step-cases}
use Rattle.demands.specs.Idle.{Words}

-- words by a computed test

unfoldable pub small : List ℕ → Bool
small [] = true
small (w ∷ ws) = ltb w (2 ^ 32) && small ws

pub small-words : (ws : List ℕ) → small ws ≡ true → Words ws
unfolding small
small-words [] h = tt
small-words (w ∷ ws) h = (ltb-true _ _ (and_left _ (small ws) h), small-words ws (and_right (ltb w (2 ^ 32)) _ h))

-- words stay words

set_words : (s : List ℕ) (i w : ℕ) → w < 2 ^ 32 → Words s → Words (set s i w)
set_words [] i w b h = h
set_words (x ∷ s) zero w b h = (b, h.1)
set_words (x ∷ s) (suc i) w b h = (h.0, set_words s i w b h.1)

put-port : (p m v r : ℕ) (s : List ℕ) → Words s → Words (set_port p m v r s)
unfolding set_port
put-port p m v r s h = set_words s p _ (port-word _ _ _ _) h

put-network : (t : List ℕ) (n : ℕ) (c : Network) (s : List ℕ) → Words s → Words (set_network t n c s)
unfolding set_network
put-network t n c s h = set_words s _ _ (network-word c) h

put-source : (t : List ℕ) (k status r : ℕ) (s : List ℕ) → Words s → Words (set_source t k status r s)
unfolding set_source
put-source t k status r s h = set_words s _ _ (source-word status r) h

kept-by-writes : (t : List ℕ) → KeptByWrites t Words
unfolding set_result
kept-by-writes t =
    record {
      clear = λ p s b k h. put-port p _ _ _ s h;
      timer_start = λ p s b k h. put-port p _ _ _ s h;
      stop = λ p s b k h. put-port p _ _ _ s h;
      ask = λ n mode s b m h. put-network t n _ s h;
      store = λ r result s b m h. set_words s _ _ (rule-word result) h;
      unmark = λ p s b h. set_words s p _ (port-word _ _ _ _) h;
    }

kept-by-acts : (t : List ℕ) → KeptByActs t (λ x. Words x.words)
unfolding act judge
kept-by-acts t =
    record {
      list_start = λ l x b h. one_more x _ _ _ _ h;
      act = λ l i x w a b h. one_more x _ _ _ _ h;
      undefined = λ l i x w e h. one_more x _ _ _ _ h;
      judge = λ l i x w e u h. one_more x _ _ _ _ h;
    }
  where
    one_more : (x : Run) (k o a b : ℕ) → Words x.words → Words (x.words ++ (trace_word k o a b ∷ []))
    one_more x k o a b h = each_both _ x.words _ h (trace-word k o a b, tt)

module _ (t : List ℕ) where
  move-source : (k status r : ℕ) (s : List ℕ) → Words s → Words (move_source t k status r s)
  unfolding move_source
  move-source k status r s h =
      split (eqb status (status_in t k s)) (λ e. rw e (put-source t k status r s h)) (λ e. rw e (put-port _ _ _ _ _ (put-source t k status r s h)))

  move-network : (n : ℕ) (c : Network) (s : List ℕ) → Words s → Words (move_network t n c s)
  unfolding move_network
  move-network n c s h =
      split (eqb (shown c.state) (shown (network_in t n s).state)) (λ e. rw e (put-network t n c s h))
      (λ e. rw e (put-port _ _ _ _ _ (put-network t n c s h)))

  ticked-source : (k : ℕ) (s : List ℕ) → Words s → Words (tick_source t k s)
  unfolding tick_source
  ticked-source k s h =
      split (eqb (status_in t k s) status_pending)
      (λ e. split (leb (remaining_in s (source_index t k)) 1) (λ d. rw (e, d) (move-source k _ _ s h)) (λ d. rw (e, d) (move-source k _ _ s h)))
      (λ e. rw e h)

  ticked-timer : (p : ℕ) (s : List ℕ) → Words s → Words (tick_timer t p s)
  unfolding tick_timer
  ticked-timer p s h =
      split (eqb (port_kind t p) port_timer && eqb (value_of (word s p)) timer_started)
      (λ e. split (leb (remaining_in s p) 1) (λ d. rw (e, d) (put-port p _ _ _ s h)) (λ d. rw (e, d) (put-port p _ _ _ s h)))
      (λ e. rw e h)

  ticked : (s : List ℕ) → Words s → Words (tick_things t s)
  unfolding tick_things tick_network
  ticked s h =
      each_keeps Words (tick_timer t) 0 (ports t) _ (λ p x a b. ticked-timer p x)
      (each_keeps Words (tick_source t) 0 (sources t) _ (λ k x a b. ticked-source k x)
      (each_keeps Words (tick_network t) 0 (networks t) s (λ n x a b. move-network n _ x) h))

  -- a run that leaves words of 32 bits
  pub record Packed (x : Run) : Type 0 where
    pub state : Words x.state
    pub words : Words x.words

  module _ (f : Facts t) where
    arbitrated : (q : ℕ → Bool) (os s : List ℕ) → Words s → Packed (arbitrate t q os s)
    unfolding arbitrate
    arbitrated q os s h =
        record {
          state = arbitrate-keeps t f Words (kept-by-writes t) q os s h;
          words = decide-keeps t f (λ x. Words x.words) (kept-by-acts t) q os _ tt;
        }

    asked : (p v : ℕ) (os s : List ℕ) → Words s → Packed (request t p v os s)
    unfolding request
    asked p v os s h =
        split (eqb (deferred t p) 1) (λ e. rw e (record { state = put-port p 1 v 0 s h; words = tt }))
        (λ e. rw e (arbitrated _ os _ (put-port p 0 v 0 s h)))

    happened : (e : ℕ) (os s : List ℕ) → Taken t e → Fits t s → Words s → Packed (happen t e os s)
    unfolding tick arbitrate_marked
    happened e os s w fit h = go (happen t e) (event t e w)
      where
        go : (g : List ℕ → List ℕ → Run) → Event t e g → Packed (g os s)
        go g (a_tick k o) = arbitrated _ os _ (ticked s h)
        go g (a_mode k of m free) = asked _ _ os s h
        go g (a_request k of m) = asked _ _ os s h
        go g (of_source k free of u c) = record { state = source-to t f Words e s u c (λ status r ok. move-source _ status r s h) h; words = tt }
        go g (of_network k of u c) =
            record { state = network-to t f Words e s u c of.there fit (λ x ok same. move-network _ x s h) h; words = tt }

pub step_words : (t s : List ℕ) (room : ℕ) (os : List ℕ) (e : ℕ) → Words s → Words (step t s room os e).state × Words (step t s room os e).words
step_words t s room os e h =
    step-cases (λ r. Words r.state × Words r.words) t s room os e (λ k a. (h, tt))
    (λ c w. let p = happened t (facts t c.table) e (heeded t os) s w c.state h in (p.state, p.words))

pub drop-words : (n : ℕ) (ws : List ℕ) → Words ws → Words (drop n ws)
drop-words zero ws h = h
drop-words (suc n) [] h = h
drop-words (suc n) (w ∷ ws) h = drop-words n ws h.1
