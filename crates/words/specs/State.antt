-- What is read of the state: the code's things and networks as the rulebook's, and the fields of a port's and a source's word.
use Rattle.std.specs.Prelude.{ℕ}
use Rattle.rulebook.specs.State as state
use Rattle.words.specs.Field.{Field}
use Rattle.words.specs.declared.state.Network as declared
use Rattle.words.specs.declared.state.Port as port
use Rattle.words.specs.declared.state.Source as source
use Rattle.words.specs.declared.state.Thing.{Thing}
use Rattle.words.specs.declared.state.Thing.TheVariants.{Port, Rule, Network, Source}

abbrev pub thing_of : Thing → state.Thing
thing_of (Port p) = state.a_port p
thing_of (Rule r) = state.a_rule r
thing_of (Network n) = state.a_network n
thing_of (Source k) = state.a_source k

-- a port as read of its word w
pub record PortIn (w : ℕ) (c : port.Port) : Type 0 where
  pub defined : Field (state.defined_of w) 2 c.defined
  pub marked : Field (state.marked_of w) 2 c.marked
  pub value : Field (state.value_of w) 256 c.value
  pub remaining : Field (state.remaining_of w) 65536 c.remaining

abbrev pub network_as : declared.Network → state.Network
network_as c = record { asked = c.asked; state = c.state; counter = c.counter; heard = c.heard; remaining = c.remaining }

-- a source as read of its word w
pub record SourceIn (w : ℕ) (c : source.Source) : Type 0 where
  pub status : Field (state.status_of w) 4 c.status
  pub remaining : Field (state.remaining_of w) 65536 c.remaining
