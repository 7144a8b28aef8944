-- A store as the definitions see it: its task, and its place with the state and the instruction.
use Rattle.local_rules.specs.Site.{Task}
use Rattle.clear_laws.specs.Clear.{Store}
use Rattle.store_clear.specs.declared.store.GivenStore.{GivenStore}

abbrev pub task_in : GivenStore → Task
task_in store = record { flash = store.flash.now; assumptions = store.assumptions.now }

abbrev pub store_of : GivenStore → Store
store_of store = record { pc = store.pc; state = store.state.now; instr = store.instr.now }
