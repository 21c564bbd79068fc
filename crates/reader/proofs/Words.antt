-- What is read: its words are inside those lent, and as they are written to a file, the file says the listing's table. Assumes nothing.
use Prim.Native.Nat.{ℕ, ◌≤◌}
use mathlib.Core.Path.{◌≡◌, subst}
use mathlib.Core.List.{List}
use lib.ListN.{length}
use Rattle.std.specs.Prelude.{Result, Ok}
use Rattle.listing.specs.declared.reading.Unread.{Unread}
use Rattle.listing.specs.Lines.{ListingOf}
use Rattle.listing.specs.Promises.{Reads}
use Rattle.text.specs.Words.{words_of}
use Rattle.text.specs.Raw.{bytes_in}
use Rattle.text.proofs.Bytes.{read_back}

pub words_inside : (text lent lent' : List ℕ) {r : Result ℕ Unread} {n : ℕ} → r ≡ Ok n → Reads text lent r lent' → n ≤ length lent
words_inside text lent lent' {r} {n} e h = (subst (λ (r : Result ℕ Unread). Reads text lent r lent') e h).inside

pub table-written : {text t : List ℕ} → ListingOf text t → words_of (bytes_in t) ≡ t
table-written {text} {t} l = read_back t l.listable.words
