use Rattle.std.proofs.Common.{◌≡◌, ℕ}
use Rattle.clear_laws.specs.Aims.{is_between, is_in_interval}
use Rattle.store_clear.proofs.Harmless.{Scanned}
use Rattle.store_clear.proofs.numbers.is_interval_harmless.Given as goal
use Rattle.store_clear.specs.Stores.{task_in}

abbrev pub invariant-loop-number : goal.invariant-loop-number
invariant-loop-number l =
    (follows : (p : ℕ) → is_in_interval l.store.state.now.facts l.fn.r p ≡ is_between l.fn.interval.low l.fn.interval.high p) → Scanned (task_in l.store) l.bound l.store.pc l.store.instr.now l.store.state.now l.fn.interval.low l.fn.interval.high l.fn.r l.up follows l.number
