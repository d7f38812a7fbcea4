use Rattle.headline_law.proofs.ReadAmounts.{no-gas-cap}
use Rattle.headline_law.proofs.money.read_set_ups_have_no_gas_cap.Goals as goal

pub returns : goal.returns
returns c = no-gas-cap
