-- Instructions that neither store nor push, nor go to a computed word: their step is never flagged.
use Rattle.std.specs.Prelude.{ℕ, ◌||◌, not, Bool, true, false, if◌then◌else◌, List, [], ◌∷◌, ◌++◌, Option, None}
use Rattle.avr_model.specs.declared.instruction.Instr.{Instr}
use Rattle.avr_model.specs.declared.instruction.Instr.TheVariants as i
use Rattle.avr_model.specs.declared.effect.Effect.{Effect}
use Rattle.avr_model.specs.declared.instruction.Pointer.{Pointer}
use Rattle.avr_model.specs.Bits.{with_bit}
use Rattle.avr_model.specs.Vectors.{kept_byte}
use Rattle.avr_model.specs.State.{State, register, pair, minus_sp, fall}
use Rattle.avr_machine.specs.declared.stores.Onward.{Onward}
use Rattle.avr_model.specs.declared.assumption.Entry.{Entry}
use Rattle.avr_model.specs.declared.effect.Write.{Write}
use Rattle.avr_model.specs.Assumptions.{is_fixed_site, recur_line, has_scratch}
use Rattle.avr_model.specs.Masks.{reads_masks}
use Rattle.avr_model.specs.Sites.{is_scratch, pointer_register}
use Rattle.avr_model.specs.Devices.{Image, device_of, back_of, wrapped}
use Rattle.avr_model.specs.Step.{Answer, Overflow, after, all_inside, is_refused, unless_within, first_of, flagged_or, flag_by, live_write, flagged_write, moves_vectors, answer_to}
use Rattle.avr_model.specs.Effects.{effect_of, going_to, extended_word, set, storing, store_effect, port, out_effect, bit_effect, pointed, further, way_back}

-- jumps, calls, returns, branches and skips
abbrev pub is_quiet_flow : Instr → Bool
is_quiet_flow i.Ijmp = false
is_quiet_flow i.Icall = false
is_quiet_flow i.Eijmp = false
is_quiet_flow i.Eicall = false
is_quiet_flow (i.Call k) = false
is_quiet_flow (i.Rcall k) = false
is_quiet_flow _ = true

abbrev pub is_quiet : Instr → Bool
is_quiet (i.Std b q r) = false
is_quiet (i.Sts k r) = false
is_quiet (i.St p r) = false
is_quiet (i.Push r) = false
is_quiet (i.Out a r) = false
is_quiet (i.Cbi a b) = false
is_quiet (i.Sbi a b) = false
is_quiet instr = is_quiet_flow instr

-- the protected address that a pointer store writes, if its site isn't fixed and the write is flagged
abbrev pub protected_at : Image → List Entry → ℕ → Write → Option ℕ
protected_at image A pc w = if not (is_fixed_site image A pc) then flagged_write (device_of image) A pc (w ∷ []) else None

-- a moving bit is read as 0: the list reads masks on the device of the words
abbrev pub is_still : Image → List Entry → Bool
is_still image A = reads_masks (device_of image) A

-- the write sets a moving bit, under such a list
abbrev pub moves_at : Image → List Entry → Write → Bool
moves_at image A w = moves_vectors (device_of image) (is_still image A) (w ∷ [])

-- the answer to an effect that pushes nothing and goes to no computed word
abbrev pub store_answer : State → Option ℕ → Bool → Effect → Answer
store_answer m protected moves e = flagged_or (flag_by m.pc (live_write m.memory (e.stores ++ [])) protected None moves) (after m false e)

-- the answer to a store of a byte at a data address after which the machine goes on at a word
abbrev pub onward_answer : Image → List Entry → State → Option ℕ → Write → Onward → Answer
onward_answer image A m protected w onward =
    store_answer m protected (moves_at image A w) (record (storing m w.address w.byte) { pc = onward.pc; delay = onward.delay })

-- the byte of a register at the address of a pointer, and the answer to its store
abbrev pub through : State → Pointer → ℕ → Write
through m p r = record { address = pointed p (pair m (pointer_register p)); byte = register m r }

abbrev pub through_answer : Image → List Entry → State → Pointer → ℕ → Answer
through_answer image A m p r = store_answer m (protected_at image A m.pc (through m p r)) (moves_at image A (through m p r)) (store_effect m p r)

-- the answer to `out`
abbrev pub output_answer : Image → List Entry → State → ℕ → ℕ → Answer
output_answer image A m a r =
    store_answer m None (moves_at image A (record { address = port m.device a; byte = register m r })) (out_effect m (port m.device a) (register m r))

-- the answer to `sbi` if `on`, else to `cbi`
abbrev pub bit_answer : Image → List Entry → State → ℕ → ℕ → Bool → Answer
bit_answer image A m a b on =
    store_answer m None (moves_at image A (record { address = port m.device a; byte = with_bit (kept_byte m.device m.enables (port m.device a)) b on }))
    (bit_effect m (port m.device a) b on)

-- the answer to a push after which the machine continues at a word
abbrev pub push_effect_to : State → List Write → ℕ → ℕ → Effect
push_effect_to m pushes sp target = record (going_to m target) { sp = sp; is_open = false; pushes = pushes }

abbrev pub push_answer : Bool → State → Option ℕ → List Write → ℕ → ℕ → Answer
push_answer guarded m transfer pushes sp target =
    if all_inside m.device pushes || is_refused transfer
    then flagged_or (flag_by m.pc (live_write m.memory pushes) None transfer false) (after m guarded (push_effect_to m pushes sp target))
    else Overflow m.pc

-- the word that a call enters, if that is refused: it is unlisted, or its `recur` line does not permit the call so deep
abbrev pub refused_at : Image → List Entry → State → Option ℕ → ℕ → Option ℕ
refused_at image A m unlisted word = first_of unlisted (if not (is_scratch image m.pc) then unless_within (recur_line A word) (fall m) word else None)

-- the answer to `push`
abbrev pub register_answer : Image → List Entry → State → ℕ → Answer
register_answer image A m r =
    push_answer (not (is_scratch image m.pc || has_scratch A m.pc)) m None (set m.sp (register m r)) (minus_sp m.device m.sp 1) (further m 1)

-- the answer to a call of a word, with a return address
abbrev pub called_answer : Image → List Entry → State → Option ℕ → ℕ → ℕ → Answer
called_answer image A m unlisted target back =
    push_answer (not (is_scratch image m.pc)) m (refused_at image A m unlisted (wrapped m.device target)) (way_back m.device m.sp back)
    (minus_sp m.device m.sp (back_of m.device)) target

-- the answer to an instruction that isn't quiet
abbrev pub loud_answer : Image → List Entry → State → Instr → ℕ → ℕ → Answer
loud_answer image A m instr b1 b2 = answer_to image A m instr (effect_of image (is_still image A) m instr b1 b2)

-- the word in Z; if `extended`, the one in EIND and Z
abbrev pub computed_word : State → Bool → ℕ
computed_word m extended = if extended then extended_word m else pair m 30

-- the answer to a jump to a computed word
abbrev pub jump_answer : State → Option ℕ → ℕ → Answer
jump_answer m transfer target = flagged_or (flag_by m.pc None None transfer false) (after m false (going_to m target))
