-- What the readers' answers say, by their cases. Assumes nothing.
use Prim.Native.Nat.{ℕ, ◌^◌, ◌<◌}
use mathlib.Core.Path.{◌≡◌, refl, subst}
use mathlib.Core.Bool.{true}
use mathlib.Core.List.{List, ◌++◌}
use native.Mathlib.Omega.{arith}
use lib.ListN.{drop}
use Rattle.std.specs.Prelude.{Option, Some, None, Result, Err}
use Rattle.std.specs.Option.{is_some, ok_or}
use Rattle.rulebook.specs.Listing.{by_kind}
use Rattle.words.specs.declared.sections.Layout.{Layout}
use Rattle.words.specs.Sections.{Laid}
use Rattle.listing.specs.Lines.{line}
use Rattle.listing.specs.Inside.{HasLine, ReadsLine}

-- a line of a form that is told by another name

module _ {g f : ℕ} (text : List ℕ) (at : ℕ) (r : Option (ℕ × ℕ)) (is : g ≡ f) (reads : ReadsLine g text at r) where
  reads-as : ReadsLine f text at r
  reads-as = subst (λ (k : ℕ). ReadsLine k text at r) is reads

  pub line_as : {w next : ℕ} → r ≡ Some (w, next) → HasLine f text at w next
  line_as e = subst (λ (s : Option (ℕ × ℕ)). ReadsLine f text at s) e reads-as

  pub misspelt-as : r ≡ None → (w : ℕ) (rest : List ℕ) → w < 2 ^ 32 → drop at text ≡ line (by_kind f w) w ++ rest → ⊥
  misspelt-as e = subst (λ (s : Option (ℕ × ℕ)). ReadsLine f text at s) e reads-as

  -- a line that must stand there is read
  pub some_line : (((w : ℕ) (rest : List ℕ) → w < 2 ^ 32 → drop at text ≡ line (by_kind f w) w ++ rest → ⊥) → ⊥) → is_some r ≡ true
  some_line never = of_case r reads-as
    where
      of_case : (s : Option (ℕ × ℕ)) → ReadsLine f text at s → is_some s ≡ true
      of_case (Some x) h = refl
      of_case None h = absurd (never h)

-- the number of a line that is missing
pub missing : (r : Option (ℕ × ℕ)) (i k : ℕ) → r ≡ None → ◌≡◌ {A = Result (ℕ × ℕ) ℕ} (Err k) (ok_or r i) → k ≡ i
missing r i k none is = let e : ◌≡◌ {A = Result (ℕ × ℕ) ℕ} (Err k) (Err i) = rw none at is in cc

-- a table that a header asks for is short enough to count its lines
pub short-table : (t : List ℕ) (h : Layout) → Laid t h → h.length < 2 ^ 20
short-table t h l =
    omega (
      arith,
      l.length,
      l.ports.value,
      l.ports.small,
      l.networks.value,
      l.networks.small,
      l.sources.value,
      l.sources.small,
      l.expressions.value,
      l.expressions.small,
      l.rules.value,
      l.rules.small,
      l.lists.value,
      l.lists.small,
      l.items.value,
      l.items.small,
    )
