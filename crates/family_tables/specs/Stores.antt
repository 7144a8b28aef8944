-- Two firmwares that store onto their own stack: onto a free byte, and onto a pushed one.
use Rattle.std.specs.Prelude.{ℕ, ◌≡◌, true, false, List, [], ◌∷◌, replicate, refl}
use Rattle.avr_model.specs.Assumptions.{has_masks, has_scratch}
use Rattle.avr_model.specs.Bits.{any_below, all_below}
use Rattle.avr_model.specs.Devices.{device_row, Image, M328, image_of}
use Rattle.avr_model.specs.Masks.{reads_masks}
use Rattle.avr_model.specs.Sites.{is_scratch, is_fixed}
use Rattle.avr_model.specs.Table.{decoded}
use Rattle.sp_domain.specs.declared.slots.Slot.TheVariants.{Free}
use Rattle.abs_state.specs.declared.state.AbsState.{AbsState}
use Rattle.node_keys.specs.declared.keys.SpForm.TheVariants.{Closed}
use Rattle.node_keys.specs.Keys.{root_inst, entry_key}
use Rattle.local_rules.specs.declared.local.Node.{Node}
use Rattle.edge_rules.specs.Examples.{top}
use Rattle.edge_rules.specs.Families.{RankedFamily}
use Rattle.clear_laws.specs.Held.{is_guarded_push}
use Rattle.clear_laws.specs.Clear.{is_clear}
use Rattle.local_rules.specs.Site.{bare}

-- a call of the next word makes room for two bytes; `in r28, 0x3d`; `sts 0x08FE, r0` onto the second byte; a jump to itself
abbrev pub over_room : Image
over_room = image_of M328 (0xD000 ∷ 0xB7CD ∷ 0x9200 ∷ 0x08FE ∷ 0xCFFF ∷ replicate 16379 0xFFFF)

-- the same, but two registers are pushed
abbrev pub over_pushed : Image
over_pushed = image_of M328 (0x920F ∷ 0x920F ∷ 0x9200 ∷ 0x08FE ∷ 0xCFFF ∷ replicate 16379 0xFFFF)

-- a node of the root with this many unknown bytes on the stack
abbrev pub with_bytes : ℕ → AbsState
with_bytes n = record top { slots = replicate n Free }

abbrev pub at_depth : ℕ → ℕ → Node
at_depth pc n = record { key = record (entry_key root_inst) { pc = pc; sp = Closed n }; state = with_bytes n }

abbrev pub family_of : List Node → RankedFamily
family_of nodes = record { nodes = nodes; rank_of = λ inst. 0; need_of = λ inst. 2; bound = 2 }

abbrev pub room_family : RankedFamily
room_family = family_of (at_depth 0 0 ∷ at_depth 1 2 ∷ at_depth 2 2 ∷ at_depth 4 2 ∷ [])

abbrev pub pushed_family : RankedFamily
pushed_family = family_of (at_depth 0 0 ∷ at_depth 1 1 ∷ at_depth 2 2 ∷ at_depth 4 2 ∷ [])

-- the store is clear exactly if its slot may not hold a live byte
pub clear_where_free : is_clear (bare over_room) 2 (at_depth 2 2) (λ d. false) ≡ true
unfolding decoded is_fixed device_row reads_masks has_masks
clear_where_free = refl

pub unclear_where_held : is_clear (bare over_pushed) 2 (at_depth 2 2) (λ d. true) ≡ false
unfolding decoded is_fixed device_row reads_masks has_masks
unclear_where_held = refl

-- `push` guards its byte; the call that makes room doesn't
pub push_is_guarded : is_guarded_push (bare over_pushed) 1 ≡ true
unfolding is_scratch has_scratch any_below all_below decoded device_row
push_is_guarded = refl
