-- The rulebook's number of a form.
use Rattle.std.specs.Prelude.{ℕ, ◌+◌}
use Rattle.listing.specs.declared.forms.Form.{Form}
use Rattle.listing.specs.declared.forms.Form.TheVariants as form

abbrev pub form_number : Form → ℕ
form_number form.FirstHeader = 0
form_number form.SecondHeader = 1
form_number form.ThirdHeader = 2
form_number form.Port = 3
form_number form.Network = 4
form_number form.Waits = 5
form_number form.Source = 6
form_number form.Condition = 7
form_number form.Operator = 8
form_number form.Rule = 9
form_number form.List = 10
form_number form.FirstItem = 11
form_number form.SecondItem = 12
form_number (form.Beyond k) = 13 + k
