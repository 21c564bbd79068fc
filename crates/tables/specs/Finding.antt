-- The table check's answer in the documents' numbers: reason and place, 0 and 0 for an accepted table, and B, 0 for a refused one.
use Rattle.std.specs.Prelude.{ℕ, ◌≡◌, cond, List, Result, Ok, Err}
use Rattle.rulebook.specs.Reasons.{check, accepted, bound as bound_of}
use Rattle.rulebook.specs.Listing.{shape_reason}
use Rattle.words.specs.declared.sections.Layout.{Layout}
use Rattle.words.specs.Sections.{Laid, Read}
use Rattle.tables.specs.declared.Misshapen.{Misshapen}
use Rattle.tables.specs.declared.Misshapen.TheVariants as shape
use Rattle.tables.specs.declared.Fault.{Fault}
use Rattle.tables.specs.declared.Fault.TheVariants.{TooShort, WrongEdition, WrongCounts, WrongLength}
use Rattle.tables.specs.declared.Fault.TheVariants.{Misfit, Misnamed, TooDeep, OwnersClash, Unreached, TooDear}

pub record Finding : Type 0 where
  pub reason : ℕ
  pub place : ℕ
  pub bound : ℕ

abbrev pub refused : ℕ → ℕ → Finding
refused k i = record { reason = k; place = i; bound = 0 }

abbrev pub finding : Result ℕ Fault → Finding
finding (Ok b) = record { reason = 0; place = 0; bound = b }
finding (Err TooShort) = refused 1 0
finding (Err WrongEdition) = refused 2 0
finding (Err WrongCounts) = refused 3 0
finding (Err WrongLength) = refused 4 0
finding (Err (Misfit i)) = refused 5 i
finding (Err (Misnamed i)) = refused 6 i
finding (Err (TooDeep i)) = refused 7 i
finding (Err (OwnersClash i)) = refused 8 i
finding (Err (Unreached i)) = refused 10 i
finding (Err TooDear) = refused 9 0

-- a table check's answer in three numbers: the reason, the place and B, 0 where there is none
abbrev pub Says : Finding → ℕ → ℕ → ℕ → Type 0
Says x reason place bound = (reason ≡ x.reason) × (place ≡ x.place) × (bound ≡ x.bound)

unfoldable pub promised : List ℕ → Finding
promised t = record { reason = (check t).reason; place = (check t).place; bound = cond (accepted t) (bound_of t) 0 }

-- reasons 1 to 4: the number of the one that holds; and where none does, the table, or the layout of its header

abbrev pub misshapen_number : Misshapen → ℕ
misshapen_number shape.TooShort = 1
misshapen_number shape.WrongEdition = 2
misshapen_number shape.WrongCounts = 3
misshapen_number shape.WrongLength = 4

abbrev pub shape_number : Result Read Misshapen → ℕ
shape_number (Ok x) = 0
shape_number (Err e) = misshapen_number e

abbrev pub IsTableOf : List ℕ → Result Read Misshapen → Type 0
IsTableOf t (Ok x) = x.words ≡ t
IsTableOf t (Err e) = Unit

pub record ShapesTable (t : List ℕ) (r : Result Read Misshapen) : Type 0 where
  pub reason : shape_number r ≡ shape_reason t
  pub table : IsTableOf t r

abbrev pub IsLayoutOf : List ℕ → Result Layout Misshapen → Type 0
IsLayoutOf t (Ok h) = Laid t h
IsLayoutOf t (Err e) = Unit

abbrev pub layout_number : Result Layout Misshapen → ℕ
layout_number (Ok h) = 0
layout_number (Err e) = misshapen_number e

pub record Shapes (t : List ℕ) (r : Result Layout Misshapen) : Type 0 where
  pub reason : layout_number r ≡ shape_reason t
  pub layout : IsLayoutOf t r

-- the same reason among all ten
abbrev pub fault_of : Misshapen → Fault
fault_of shape.TooShort = TooShort
fault_of shape.WrongEdition = WrongEdition
fault_of shape.WrongCounts = WrongCounts
fault_of shape.WrongLength = WrongLength
