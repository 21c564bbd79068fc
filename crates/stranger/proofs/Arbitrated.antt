-- What an arbitration leaves alone: a source's word, a network's state, counter, heard and remaining, and the value of a port that shows.
-- Assumes nothing.
use mathlib.Core.Path.{◌≡◌, sym, ◌∙◌, ap}
use mathlib.Core.Bool.{Bool}
use mathlib.Core.List.{List}
use Prim.Native.Nat.{ℕ, ◌≤◌, ◌<◌}
use native.Mathlib.Omega.{arith}
use native.Mathlib.Nat.{mod-eq_of_lt}
use lib.ListN.{set}
use lib.Seq.{get_or-set_same, get_or-set_other}
use lib.Dec.{eqb}
use borrow.Author.Tests.{eqb-true, eqb-false}
use Rattle.rulebook.specs.Words.{word}
use Rattle.rulebook.specs.Table.{ports, networks, sources, rules, port_kind, port_mode}
use Rattle.rulebook.specs.State.{rule_index, network_index, source_index, defined_of, value_of, remaining_of, Network, network_of}
use Rattle.rulebook.specs.Lists.{set_port, network_in, asking, set_network, set_result}
use Rattle.rulebook.specs.Arbitration.{unmarked, arbitrate}
use Rattle.laws.specs.Facts.{Facts}
use Rattle.laws.proofs.Tests.{split}
use Rattle.laws.proofs.Fields.{digit-small, port-defined, port-value}
use Rattle.laws.proofs.Fit.{NetworkSmall, network-again, fits-length}
use Rattle.laws.proofs.FitKept.{Fits, fit-kept}
use Rattle.laws.proofs.Runs.{arbitrate-keeps}
use Rattle.laws.proofs.FitEvents.{MayShow}

-- a statement that each write keeps where the state fits
pub record KeptFitting (t : List ℕ) (P : List ℕ → Type 0) : Type 0 where
  pub port : (p m v r : ℕ) (s : List ℕ) → p < ports t → (port_kind t p ≡ port_mode → ⊥) → Fits t s → P s → P (set_port p m v r s)
  pub ask : (n mode : ℕ) (s : List ℕ) → n < networks t → mode ≤ 2 → Fits t s → P s → P (set_network t n (asking mode (network_in t n s)) s)
  pub store : (r result : ℕ) (s : List ℕ) → r < rules t → Fits t s → P s → P (set_result t r result s)
  pub unmark : (p : ℕ) (s : List ℕ) → p < ports t → Fits t s → P s → P (set s p (unmarked (word s p)))

pub fitting-kept : (t : List ℕ) → Facts t → (P : List ℕ → Type 0) → KeptFitting t P → (q : ℕ → Bool) (os s : List ℕ) → Fits t s → P s
    → P (arbitrate t q os s).state
fitting-kept t f P k q os s h p =
    (arbitrate-keeps t f (λ x. Fits t x × P x)
    (record {
      clear = λ p s b e w. ((fit-kept t f).clear p s b e w.0, k.port p _ _ _ s b (λ z. omega arith) w.0 w.1);
      timer_start = λ p s b e w. ((fit-kept t f).timer_start p s b e w.0, k.port p _ _ _ s b (λ z. omega arith) w.0 w.1);
      stop = λ p s b e w. ((fit-kept t f).stop p s b e w.0, k.port p _ _ _ s b (λ z. omega arith) w.0 w.1);
      ask = λ n mode s b m w. ((fit-kept t f).ask n mode s b m w.0, k.ask n mode s b m w.0 w.1);
      store = λ r b s c d w. ((fit-kept t f).store r b s c d w.0, k.store r b s c w.0 w.1);
      unmark = λ p s b w. ((fit-kept t f).unmark p s b w.0, k.unmark p s b w.0 w.1);
    }) q os s (h, p)).1

-- A port that shows keeps its value, and whether it is defined.

pub record ShowsAs (p v d : ℕ) (s : List ℕ) : Type 0 where
  pub value : value_of (word s p) ≡ v
  pub defined : defined_of (word s p) ≡ d

shows-other : (p v d j w : ℕ) (s : List ℕ) → (p ≡ j → ⊥) → ShowsAs p v d s → ShowsAs p v d (set s j w)
shows-other p v d j w s n h =
    let e : word (set s j w) p ≡ word s p = get_or-set_other s j p w 0 n in
    record { value = ap (λ (x : ℕ). value_of x) e ∙ h.value; defined = ap (λ (x : ℕ). defined_of x) e ∙ h.defined }

unmarked-value : (w : ℕ) → value_of (unmarked w) ≡ value_of w
unmarked-value w = port-value (defined_of w) 0 (value_of w) (remaining_of w) ∙ mod-eq_of_lt (digit-small _ 256 w (omega arith))

unmarked-defined : (w : ℕ) → defined_of (unmarked w) ≡ defined_of w
unmarked-defined w = port-defined (defined_of w) 0 (value_of w) (remaining_of w) ∙ mod-eq_of_lt (digit-small _ 2 w (omega arith))

pub port-still : (t : List ℕ) → Facts t → (p v d : ℕ) → MayShow t p → (q : ℕ → Bool) (os s : List ℕ) → Fits t s → ShowsAs p v d s
    → ShowsAs p v d (arbitrate t q os s).state
unfolding set_port set_network set_result
port-still t f p v d m =
    fitting-kept t f (ShowsAs p v d)
    (record {
      port = λ q x y z s b nm h w. shows-other p v d q _ s (λ e. nm (ap (λ (u : ℕ). port_kind t u) (sym e) ∙ m.mode)) w;
      ask = λ n mode s b c h w. shows-other p v d (network_index t n) _ s (λ e. let there : p < ports t = m.there in omega arith) w;
      store = λ r b s c h w. shows-other p v d (rule_index t r) _ s (λ e. let there : p < ports t = m.there in omega arith) w;
      unmark = λ q s b h w. split (eqb p q)
          (λ e. let z : p ≡ q = eqb-true _ _ e in let len = fits-length t s h in let there : p < ports t = m.there in
          let is : word (set s q (unmarked (word s q))) p ≡ unmarked (word s p) = rw (← z) (get_or-set_same s p (unmarked (word s p)) 0 (omega arith)) in
          record {
            value = ap (λ (x : ℕ). value_of x) is ∙ unmarked-value (word s p) ∙ w.value;
            defined = ap (λ (x : ℕ). defined_of x) is ∙ unmarked-defined (word s p) ∙ w.defined;
          })
          (λ e. shows-other p v d q _ s (eqb-false _ _ e) w);
    })

-- A source's word.

pub source-still : (t : List ℕ) → Facts t → (k w : ℕ) → k < sources t → (q : ℕ → Bool) (os s : List ℕ) → Fits t s → word s (source_index t k) ≡ w
    → word (arbitrate t q os s).state (source_index t k) ≡ w
unfolding set_port set_network set_result
source-still t f k w b =
    fitting-kept t f (λ s. word s (source_index t k) ≡ w)
    (record {
      port = λ q x y z s c nm h e. get_or-set_other s q (source_index t k) _ 0 (λ u. omega arith) ∙ e;
      ask = λ n mode s c m h e. get_or-set_other s (network_index t n) (source_index t k) _ 0 (λ u. omega arith) ∙ e;
      store = λ r g s c h e. get_or-set_other s (rule_index t r) (source_index t k) _ 0 (λ u. omega arith) ∙ e;
      unmark = λ q s c h e. get_or-set_other s q (source_index t k) _ 0 (λ u. omega arith) ∙ e;
    })

-- A network's state, counter, heard and remaining.

pub record Core (a b : Network) : Type 0 where
  pub state : a.state ≡ b.state
  pub counter : a.counter ≡ b.counter
  pub heard : a.heard ≡ b.heard
  pub remaining : a.remaining ≡ b.remaining

pub small_of : (w mode : ℕ) → mode < 4 → NetworkSmall (asking mode (network_of w))
small_of w mode b =
    record {
      asked₂ = b;
      state₃ = digit-small _ 8 w (omega arith);
      counter₈ = digit-small _ 256 w (omega arith);
      heard₁ = digit-small _ 2 w (omega arith);
      remaining₁₆ = digit-small _ 65536 w (omega arith);
    }

pub asked-word : (t s : List ℕ) (n mode : ℕ) → n < networks t → mode ≤ 2 → Fits t s
    → network_in t n (set_network t n (asking mode (network_in t n s)) s) ≡ asking mode (network_in t n s)
unfolding set_network
asked-word t s n mode b m h =
    let len = fits-length t s h in
    ap network_of (get_or-set_same s (network_index t n) _ 0 (omega arith)) ∙ network-again _ (small_of (word s (network_index t n)) mode (omega arith))

core-other : (t s : List ℕ) (n j w : ℕ) (c : Network) → (network_index t n ≡ j → ⊥) → Core (network_in t n s) c → Core (network_in t n (set s j w)) c
core-other t s n j w c d k = rw (get_or-set_other s j (network_index t n) w 0 d) k

pub network-still : (t : List ℕ) → Facts t → (n : ℕ) (c : Network) → n < networks t → (q : ℕ → Bool) (os s : List ℕ) → Fits t s → Core (network_in t n s) c
    → Core (network_in t n (arbitrate t q os s).state) c
unfolding set_port set_result
network-still t f n c b =
    fitting-kept t f (λ s. Core (network_in t n s) c)
    (record {
      port = λ q x y z s e nm h k. core-other t s n q _ c (λ u. omega arith) k;
      ask = λ m mode s e g h k. split (eqb n m)
          (λ z. let same : n ≡ m = eqb-true _ _ z in rw (← same, asked-word t s n mode b g h)
          (record { state = k.state; counter = k.counter; heard = k.heard; remaining = k.remaining }))
          (λ z. ask-other m mode s k (eqb-false _ _ z));
      store = λ r g s e h k. core-other t s n (rule_index t r) _ c (λ u. omega arith) k;
      unmark = λ q s e h k. core-other t s n q _ c (λ u. omega arith) k;
    })
  where
    ask-other : (m mode : ℕ) (s : List ℕ) → Core (network_in t n s) c → (n ≡ m → ⊥) → Core (network_in t n (set_network t m (asking mode (network_in t m s)) s)) c
    ask-other m mode s k d = unfold set_network in core-other t s n (network_index t m) _ c (λ u. d (omega arith)) k
