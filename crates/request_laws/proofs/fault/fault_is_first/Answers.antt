use Rattle.request_laws.proofs.FirstFaults.{fault_is_first}
use Rattle.request_laws.proofs.fault.fault_is_first.Goals as goal

pub returns : goal.returns
returns c = fault_is_first
