-- `demands::linked::show`: what is concluded follows from what the call promises. Assumes nothing.
use Rattle.demands.proofs.Panel.{of-panel}
use Rattle.demands.proofs.linked.show.Goals as goal

pub returns : goal.returns
returns c = of-panel _ _ _ _ _ _ _ _ c.herringcart_panel.ensures
