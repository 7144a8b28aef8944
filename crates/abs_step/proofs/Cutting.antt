-- Branches on C: two that are added, and the states of the registers that were cut.
use Rattle.std.proofs.Common.{◌≡◌, refl, sym, ap, ◌∙◌, ℕ, Bool, List, [], ◌∷◌, ◌++◌, Option, Some, None, Result, Ok, Err, append-nil}
use Rattle.sp_domain.specs.declared.tags.CarryTag.{CarryTag}
use Rattle.sp_domain.specs.declared.tags.CarryTag.TheVariants as carry
use Rattle.abs_state.specs.declared.values.AbsByte.{AbsByte}
use Rattle.abs_state.specs.declared.state.AbsState.{AbsState}
use Rattle.local_rules.specs.declared.local.Node.{Node}
use Rattle.local_rules.specs.declared.local.NodeFault.{NodeFault}
use Rattle.local_rules.specs.Raw.{Raw, all_of}
use Rattle.local_rules.specs.Flow.{part_of, with_value, where_carry}
use Rattle.local_rules.specs.Registers.{value}
use Rattle.abs_step.specs.Adding.{Moving, with_nodes, first_fault, AreNodesAdded, Adds}
use Rattle.local_reads.specs.Cuts.{with_part, registers_where}
use Rattle.abs_step.proofs.Added.{with_all}

pub both_added : (old mid new : Moving) (r q : Raw) → AreNodesAdded old mid r → AreNodesAdded mid new q → AreNodesAdded old new (all_of (r ∷ q ∷ []))
both_added old mid new r q p s =
    let none_r : r.faults ≡ [] = ap (λ (x : Raw). x.faults) p.moves in
    let none_q : q.faults ≡ [] = ap (λ (x : Raw). x.faults) s.moves in
    record {
      moves = λ i. record { moves = r.moves ++ (q.moves ++ []); calls = []; exit = None; faults = none_r i ++ (none_q i ++ []) };
      nodes = s.nodes ∙ ap (λ (m : Moving). with_nodes m q.moves) p.nodes ∙ sym (with_all old r.moves q.moves)
          ∙ ap (λ (ms : List Node). with_nodes old (r.moves ++ ms)) (sym (append-nil q.moves));
    }

-- the second insertion may fail
pub both_add : {U : Type 0} (result : Result U NodeFault) (old mid new : Moving) (r q : Raw) → AreNodesAdded old mid r → Adds mid new result q
    → Adds old new result (all_of (r ∷ q ∷ []))
both_add (Ok u) old mid new r q p s = both_added old mid new r q p s
both_add (Err f) old mid new r q p s = λ free.
    let none : r.faults ≡ [] = ap (λ (x : Raw). x.faults) p.moves in
    ap (λ (fs : List NodeFault). first_fault (fs ++ (q.faults ++ []))) none ∙ ap first_fault (append-nil q.faults) ∙ s free

-- the state with these registers, if they exist
abbrev pub state_where : AbsState → Option (List AbsByte) → Option AbsState
state_where s None = None
state_where s (Some registers) = Some (record s { registers = registers })

cut_state : (s : AbsState) (r : ℕ) (v : Option AbsByte) → state_where s (with_part s.registers r v) ≡ with_value s r v
cut_state s r None = refl
cut_state s r (Some v) = refl

pub states_where : (c : CarryTag) (s : AbsState) (on : Bool) → state_where s (registers_where c s.registers on) ≡ where_carry c s on
states_where carry.None s on = refl
states_where (carry.Borrow j l) s on = refl
states_where (carry.Sum j l) s on = refl
states_where (carry.Less r n) s on = cut_state s r (part_of on (value s r) n)
