-- The certificates of the tests meet the definition of one.
use Rattle.std.proofs.Common.{◌≡◌, refl, sym, subst, ℕ, ◌<◌, ◌≤◌, ◌^◌, Bool, true, false, nat_lt, List, [], ◌∷◌, None, arith, rules}
use Rattle.std.proofs.lemmas.Bool.Decides.{nat_tests}
use Rattle.std.specs.List.Sorted.{IsStrictlySortedBy}
use Rattle.std.proofs.Math.Nat.{le-max_left}
use Rattle.basics.specs.Items.{first_in, further_in}
use Rattle.avr_model.specs.Assumptions.{has_pairs}
use Rattle.avr_model.specs.declared.device.Device.{Device}
use Rattle.avr_model.specs.Devices.{words_of, size_of, limit_of, depth_of}
use Rattle.avr_model.specs.Vectors.{enable_count}
use Rattle.avr_model.specs.declared.assumption.Entry.{Entry}
use Rattle.abs_state.specs.Values.{root}
use Rattle.abs_state.specs.Frames.{entered}
use Rattle.abs_state.proofs.AllLaws.{reset_stands, entries_are_true, tags_stay_fit, states_are_of}
use Rattle.vector_table.specs.Entries.{AreEntries}
use Rattle.node_keys.specs.Keys.{root_inst, entry_key, inst_numbers, node_numbers}
use Rattle.node_keys.specs.Order.{inst_cmp, node_cmp}
use Rattle.local_rules.specs.Cover.{IsNode}
use Rattle.edge_rules.specs.Examples.{callee}
use Rattle.edge_rules.specs.Expansion.{Seeds}
use Rattle.edge_laws.proofs.AllLaws.{edges_lead_to_nodes}
use Rattle.certificate.specs.declared.instance.Inst.{Inst}
use Rattle.certificate.specs.Versions.{written_version}
use Rattle.certificate.specs.Claims.{IsClaim, FitsAt, cells_of}
use Rattle.family_tables.specs.Examples.{behind, form_by, nodes_by, insts_by}

no_entries : AreEntries []
no_entries = record { in_order = refl; each = search rules; few = omega arith }

-- each device's texts admit small words and depths
pub small_word : (device : Device) (a : ℕ) → a < 16384 → a < limit_of device
small_word device a lt = omega (arith, lt, le-max_left 16384 (words_of device))

pub below_is : (a b : ℕ) → a < b → nat_lt a b ≡ true
below_is a b lt = grind (arith, nat_tests)

behind_is_node : (device : Device) → IsNode device behind root
behind_is_node device =
    let r = edges_lead_to_nodes.reset device false in
    record {
      word = small_word device 1 (omega arith);
      small = r.small;
      masks = r.masks;
      fits = r.fits;
      pick = r.pick;
      formed = r.formed;
      tags = r.tags;
      carry_bytes = r.carry_bytes;
      untagged = r.untagged;
      registers_of = r.registers_of;
      mode = r.mode;
      hulls = r.hulls;
    }

callee_is_node : (device : Device) → IsNode device (entry_key callee) (entered root)
callee_is_node device = record {
  word = small_word device 2 (omega arith);
  small = (edges_lead_to_nodes.reset device false).small;
  masks = (edges_lead_to_nodes.reset device false).masks;
  fits = tt;
  pick = tt;
  formed = entries_are_true.formed root 0 (edges_lead_to_nodes.reset device false).formed;
  tags = (tags_stay_fit.at_entry root).0;
  carry_bytes = (tags_stay_fit.at_entry root).1;
  untagged = λ e. absurd (cc);
  registers_of = states_are_of.entered device true root reset_stands.formed.count_registers (states_are_of.root device);
  mode = refl;
  hulls = tt;
}

behind_fits : (device : Device) (from : Bool) → FitsAt device false 1 behind (form_by from)
behind_fits device true =
    let r = behind_is_node device in
    (record { word = r.word; small = r.small; masks = r.masks; fits = r.fits; pick = r.pick }, omega arith)
behind_fits device false = behind_is_node device

module _ (device : Device) (bound rank need : ℕ) (from : Bool) (b : bound ≤ 2048) (r : rank < 65536) (n : need ≤ 2048) where
  deep : 2048 ≤ depth_of device
  deep = le-max_left 2048 (size_of device)

  masks : 0 < 2 ^ enable_count device
  masks = (edges_lead_to_nodes.reset device false).masks

  sample : IsClaim (record { device = device; version = written_version []; bound = bound; assumptions = []; instances = insts_by rank need; nodes = nodes_by from; witness = None })
  unfolding IsStrictlySortedBy inst_cmp node_cmp inst_numbers node_numbers cells_of has_pairs
  sample = record {
    bound_fits = omega (arith, b, deep);
    entries_fit = no_entries;
    entries_of_device = search rules;
    insts_fit = (record { kind = refl; masks = masks; rank = r; need = omega (arith, n, deep) }, (record { kind = below_is 2 (limit_of device) (small_word device 2 (omega arith)); masks = masks; rank = omega arith; need = omega arith }, tt));
    insts_ascend = ((refl, tt), (tt, tt));
    few_insts = omega arith;
    nodes_fit = (edges_lead_to_nodes.reset device false, (behind_fits device from, (callee_is_node device, tt)));
    nodes_belong = (first_in root_inst (callee ∷ []), (first_in root_inst (callee ∷ []), (further_in root_inst callee (callee ∷ []) (first_in callee []), tt)));
    nodes_ascend = ((refl, (refl, tt)), ((refl, tt), (tt, tt)));
    few_nodes = omega arith;
    few_cells = omega arith;
    of_version = tt;
    of_list = refl;
    of_device = λ says. refl;
  }

  pub sample_claim : (A : List Entry) (insts : List Inst) (nodes : Seeds) → A ≡ [] → insts ≡ insts_by rank need → nodes ≡ nodes_by from
      → IsClaim (record { device = device; version = written_version A; bound = bound; assumptions = A; instances = insts; nodes = nodes; witness = None })
  sample_claim A insts nodes ea ei en =
      subst (λ x. IsClaim (record { device = device; version = written_version x; bound = bound; assumptions = x; instances = insts; nodes = nodes; witness = None })) (sym ea)
      (subst (λ x. IsClaim (record { device = device; version = written_version []; bound = bound; assumptions = []; instances = x; nodes = nodes; witness = None })) (sym ei)
      (subst (λ x. IsClaim (record { device = device; version = written_version []; bound = bound; assumptions = []; instances = insts_by rank need; nodes = x; witness = None })) (sym en) sample))
