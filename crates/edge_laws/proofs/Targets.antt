-- Edges between nodes of the analysis lead to such nodes.
use Rattle.std.proofs.Common.{◌≡◌, ◌≢◌, refl, sym, ◌∙◌, ap, ap₂, subst, ℕ, ◌^◌, ◌<◌, ◌≤◌, ◌&&◌, Bool, true, false, List, Option, Some, Contains, arith}
use Rattle.std.proofs.lemmas.Bool.Decides.{nat_tests}
use Rattle.std.proofs.lemmas.Nat.{pow_pos}
use Rattle.avr_model.proofs.AllLaws.{devices_are_alike}
use Rattle.avr_model.specs.Devices.{words_of, limit_of, device_of}
use Rattle.avr_model.specs.declared.device.Device.{Device}
use Rattle.avr_model.specs.Vectors.{enable_count, is_enabled, last_vector, vector_word}
use Rattle.pair_domain.specs.Facts.{is_followed}
use Rattle.pair_domain.proofs.AllLaws.{facts_rise}
use Rattle.abs_state.specs.declared.state.AbsState.{AbsState}
use Rattle.abs_state.specs.Values.{following_root}
use Rattle.abs_state.specs.Frames.{entered}
use Rattle.abs_state.specs.PairsBack.{returned}
use Rattle.abs_state.specs.Formed.{IsFormed}
use Rattle.abs_state.specs.Banks.{IsStateOf}
use Rattle.vector_table.proofs.AllLaws.{enables_are_vectors}
use Rattle.abs_state.specs.Hulls.{IsInHulls}
use Rattle.abs_state.proofs.AllLaws.{reset_stands, entries_are_true, returns_are_true, tags_stay_fit, hulls_hold_intervals, states_are_of, joins_are_formed}
use Rattle.node_keys.specs.declared.keys.InstKey.{InstKey}
use Rattle.node_keys.specs.declared.keys.NodeKey.{NodeKey}
use Rattle.node_keys.specs.declared.keys.EdgeKind.{EdgeKind}
use Rattle.node_keys.specs.declared.keys.EdgeKind.TheVariants as kind
use Rattle.node_keys.specs.declared.keys.Kind.TheVariants.{Root}
use Rattle.node_keys.specs.declared.keys.Kind.{Kind}
use Rattle.node_keys.specs.declared.keys.SpForm.TheVariants.{Closed}
use Rattle.node_keys.specs.Keys.{root_inst, entry_key, offset_of, is_root, PickFits}
use Rattle.local_rules.specs.declared.local.Node.{Node}
use Rattle.local_rules.specs.declared.local.Exit.{Exit}
use Rattle.local_rules.specs.Cover.{IsNodeIn}
use Rattle.local_laws.specs.Laws.{AreNodesIn}
use Rattle.local_laws.proofs.AllLaws.{joins_are_least, local_parts_are_nodes, local_parts_fit}
use Rattle.edge_rules.specs.declared.edge.Edge.{Edge}
use Rattle.edge_rules.specs.Edges.{called_inst, vector_inst, pick_back, returned_key, raw_of, Enters, by_call, by_interrupt, IsEdge, moving, entering, returning, Leads, along_move, along_entry, along_return}
use Rattle.edge_rules.specs.Roots.{root_by}
use Rattle.edge_laws.specs.Laws.{EdgesLeadToNodes}
use Rattle.local_rules.specs.Site.{Task}

-- ---- entries

following_root_formed : IsFormed following_root 0
following_root_formed = record {
  count_registers = reset_stands.formed.count_registers;
  registers = reset_stands.formed.registers;
  bit_7 = reset_stands.formed.bit_7;
  count_slots = reset_stands.formed.count_slots;
  slots = reset_stands.formed.slots;
  carry = reset_stands.formed.carry;
  ranges = reset_stands.formed.ranges;
  slot_ranges = reset_stands.formed.slot_ranges;
  facts = facts_rise.nothing_fits;
}

some_word : (device : Device) → 0 < limit_of device
some_word device = omega (arith, devices_are_alike.inside device 0, devices_are_alike.in_limit device)

reset_node : (device : Device) (followed : Bool) → IsNodeIn device followed (entry_key root_inst) (root_by followed)
reset_node device true = record {
  word = some_word device;
  small = omega arith;
  masks = pow_pos (enable_count device);
  fits = tt;
  pick = tt;
  formed = following_root_formed;
  tags = record { registers = tags_stay_fit.at_reset.registers; slots = tags_stay_fit.at_reset.slots };
  carry_bytes = tt;
  untagged = λ kind. record {
    registers = reset_stands.untagged.registers;
    entry = reset_stands.untagged.entry;
    carry = reset_stands.untagged.carry;
    slots = reset_stands.untagged.slots;
  };
  registers_of = states_are_of.following_root device;
  mode = refl;
  hulls = hulls_hold_intervals.following_root;
}
reset_node device false = record {
  word = some_word device;
  small = omega arith;
  masks = pow_pos (enable_count device);
  fits = tt;
  pick = tt;
  formed = reset_stands.formed;
  tags = tags_stay_fit.at_reset;
  carry_bytes = tt;
  untagged = λ kind. reset_stands.untagged;
  registers_of = states_are_of.root device;
  mode = refl;
  hulls = hulls_hold_intervals.root;
}

-- an instance that is entered isn't the root
other_kind : (k : Kind) → is_root k ≡ false → k ≢ Root
other_kind k is e = absurd (cc)

entered_kind : {task : Task} {n : Node} {way : EdgeKind} {inst : InstKey} {back : ℕ} → Enters task n way inst back → is_root inst.kind ≡ false
entered_kind (by_call offset site faultless form member) = refl
entered_kind (by_interrupt offset v clears faultless form i delay enabled allowed clearable) = refl

entry_node : {device : Device} {followed : Bool} (k : NodeKey) (s : AbsState) (inst : InstKey) → IsNodeIn device followed k s → is_root inst.kind ≡ false → inst.entry < limit_of device → inst.masks < 2 ^ enable_count device
    → IsNodeIn device followed (entry_key inst) (entered s)
entry_node {device = device} k s inst node other word masks = record {
  word = word;
  small = omega arith;
  masks = masks;
  fits = tt;
  pick = tt;
  formed = entries_are_true.formed s (offset_of k.sp) node.formed;
  tags = (tags_stay_fit.at_entry s).0;
  carry_bytes = (tags_stay_fit.at_entry s).1;
  untagged = λ kind. absurd (other_kind inst.kind other kind);
  registers_of = subst (λ b. IsStateOf device b (entered s)) (sym other) (states_are_of.entered device (is_root k.inst.kind) s node.formed.count_registers node.registers_of);
  mode = entries_are_true.followed s ∙ node.mode;
  hulls = hulls_hold_intervals.entered s node.formed.count_registers node.hulls;
}

enabled_small : (device : Device) (enables v : ℕ) → is_enabled device enables v ≡ true → v ≤ last_vector device
unfolding is_enabled
enabled_small device enables v e = grind (arith, nat_tests)

-- a word of the device's flash is one of its texts
in_texts : (device : Device) (word : ℕ) → word < words_of device → word < limit_of device
in_texts device word lt = through word (words_of device) (limit_of device) lt (devices_are_alike.in_limit device)
  where
    through : (x y z : ℕ) → x < y → y ≤ z → x < z
    through x y z lt le = omega arith

pub vector_small : (device : Device) (v : ℕ) → v ≤ last_vector device → vector_word device v < limit_of device
vector_small device v h = in_texts device (vector_word device v) (devices_are_alike.vectors device v h)

entered_node : {followed : Bool} (task : Task) (n : Node) (way : EdgeKind) (inst : InstKey) (back : ℕ) → IsNodeIn (device_of task.flash) followed n.key n.state → Enters task n way inst back
    → IsNodeIn (device_of task.flash) followed (entry_key inst) (entered n.state) × (back < limit_of (device_of task.flash))
entered_node task n _ _ _ node (by_call offset site faultless form member) =
    let lead = (local_parts_fit.fit task n.key n.state).calls site member in
    (entry_node n.key n.state (called_inst n.key site.entry) node refl (in_texts (device_of task.flash) site.entry lead.0) node.masks, in_texts (device_of task.flash) site.back lead.1)
entered_node task n _ _ _ node (by_interrupt offset v clears faultless form i delay enabled allowed clearable) = (
  entry_node n.key n.state (vector_inst task.flash n.key v clears) node refl (vector_small (device_of task.flash) v (enabled_small (device_of task.flash) n.key.masks v enabled))
      (enables_are_vectors.taken (device_of task.flash) n.key.masks clears node.masks),
  node.word,
)

-- ---- returns

pub at_base : {device : Device} {followed : Bool} (k : NodeKey) (s : AbsState) → IsNodeIn device followed k s → k.sp ≡ Closed 0 → IsFormed s 0
at_base k s node e = subst (IsFormed s) (ap offset_of e) node.formed

pick_fits : (way : EdgeKind) (pick : Option ℕ) → PickFits pick → PickFits (pick_back way pick)
pick_fits kind.Local pick fits = tt
pick_fits kind.Call pick fits = tt
pick_fits (kind.Interrupt v clears) pick fits = fits
pick_fits kind.Return pick fits = tt

both_same : (b : Bool) → (b && b) ≡ b
both_same true = refl
both_same false = refl

returned_node : {followed : Bool} (task : Task) (way : EdgeKind) (n leaver : Node) (back : ℕ) (x : Exit) (t : AbsState) → IsNodeIn (device_of task.flash) followed n.key n.state → back < limit_of (device_of task.flash)
    → IsNodeIn (device_of task.flash) followed leaver.key leaver.state → is_root leaver.key.inst.kind ≡ false → (raw_of task leaver).exit ≡ Some x → returned n.state leaver.state ≡ Some t → IsNodeIn (device_of task.flash) followed (returned_key way n.key back x) t
returned_node {followed = followed} task way n leaver back x t node word other kind exit is =
    let left = (local_parts_fit.fit task leaver.key leaver.state).exit x exit in
    let base = at_base leaver.key leaver.state other left.0 in
    record {
      word = word;
      small = node.small;
      masks = subst (λ (m : ℕ). m < 2 ^ enable_count (device_of task.flash)) (sym left.1) other.masks;
      fits = node.fits;
      pick = pick_fits way n.key.pick node.pick;
      formed = returns_are_true.formed n.state leaver.state t (offset_of n.key.sp) node.formed base is;
      tags = tags_stay_fit.at_return n.state leaver.state t node.formed.count_registers node.tags is;
      carry_bytes = tags_stay_fit.carry_at_return n.state leaver.state t node.carry_bytes is;
      untagged = λ kind. returns_are_true.untagged n.state leaver.state t (offset_of n.key.sp) node.formed base (node.untagged kind) is;
      registers_of = states_are_of.returned (device_of task.flash) (is_root n.key.inst.kind) n.state leaver.state t (joins_are_formed.whole n.state (offset_of n.key.sp) node.formed) (joins_are_formed.whole leaver.state 0 base) node.registers_of (subst (λ b. IsStateOf (device_of task.flash) b leaver.state) kind other.registers_of) is;
      mode = returns_are_true.followed n.state leaver.state t is ∙ ap₂ (λ (f g : Bool). f && g) node.mode other.mode ∙ both_same followed;
      hulls = hulls_hold_intervals.returned n.state leaver.state t is;
    }

-- ---- edges

lead_node : {followed : Bool} (task : Task) (nodes : List Node) (n to : Node) → AreNodesIn (device_of task.flash) followed nodes → Contains nodes n → Leads task nodes n to
    → IsNodeIn (device_of task.flash) followed to.key to.state
lead_node task nodes n _ are here (along_move to faultless member) = (local_parts_are_nodes.nodes task n.key n.state to (are n here) faultless member).1
lead_node task nodes n _ are here (along_entry way inst back enters) = (entered_node task n way inst back (are n here) enters).0
lead_node task nodes n _ are here (along_return way inst back leaver x state enters present same faultless exit is) =
    returned_node task way n leaver back x state (are n here) (entered_node task n way inst back (are n here) enters).1 (are leaver present) (ap (λ (i : InstKey). is_root i.kind) same ∙ entered_kind enters) exit is

edge_node : {followed : Bool} (task : Task) (nodes : List Node) (n : Node) (e : Edge) → AreNodesIn (device_of task.flash) followed nodes → Contains nodes n → IsEdge task nodes n e
    → IsNodeIn (device_of task.flash) followed e.to e.state
edge_node task nodes n _ are here (moving to faultless member) =
    joins_are_least.nodes (raw_of task n).moves (λ m i. (local_parts_are_nodes.nodes task n.key n.state m (are n here) faultless i).1) to member
edge_node task nodes n _ are here (entering way inst back enters) = (entered_node task n way inst back (are n here) enters).0
edge_node task nodes n _ are here (returning way inst back leaver x state enters present same faultless exit is) =
    returned_node task way n leaver back x state (are n here) (entered_node task n way inst back (are n here) enters).1 (are leaver present) (ap (λ (i : InstKey). is_root i.kind) same ∙ entered_kind enters) exit is

pub edges_lead_to_nodes : EdgesLeadToNodes
edges_lead_to_nodes = record {
  reset = reset_node;
  entries = λ task n way inst back node enters. (entered_node task n way inst back node enters).0;
  leads = lead_node;
  edges = edge_node;
}
