-- Steps of instructions that neither store nor push, nor go to a computed word.
use Rattle.std.proofs.Common.{◌≡◌, ◌∙◌, sym, ap, refl, ℕ, Bool, true, false, ◌&&◌, ◌||◌, not, if◌then◌else◌, List, [], ◌∷◌, ◌++◌, length, Option, Some, None}
use Rattle.avr_model.specs.declared.instruction.Instr.{Instr}
use Rattle.avr_model.specs.declared.instruction.Instr.TheVariants as i
use Rattle.avr_model.specs.declared.instruction.BinaryOp.{BinaryOp}
use Rattle.avr_model.specs.declared.instruction.BinaryOp.TheVariants as binary
use Rattle.avr_model.specs.declared.instruction.ImmediateOp.{ImmediateOp}
use Rattle.avr_model.specs.declared.instruction.ImmediateOp.TheVariants as immediate
use Rattle.avr_model.specs.declared.instruction.UnaryOp.{UnaryOp}
use Rattle.avr_model.specs.declared.instruction.UnaryOp.TheVariants as unary
use Rattle.avr_model.specs.declared.assumption.Entry.{Entry}
use Rattle.avr_model.specs.declared.choice.StepResult.TheVariants as result
use Rattle.avr_model.specs.declared.effect.Write.{Write}
use Rattle.avr_model.specs.declared.effect.Effect.{Effect}
use Rattle.avr_model.specs.State.{State, Memory, fall}
use Rattle.avr_model.specs.declared.device.Device.{Device}
use Rattle.avr_model.specs.Effects.{effect_of, going_to, binary_effect, immediate_effect, unary_effect}
use Rattle.avr_model.specs.Step.{Done, Overflow, all_inside, is_refused, unless_listed, unless_within, first_of, answer_to, after, flag_by, flagged_or, live_write, protected_write, unlisted_transfer, deep_call, refused_transfer, moves_vectors, is_guarding, is_push, is_pointer_store, is_indirect, is_call, result_of, state_after}
use Rattle.avr_model.specs.Sites.{is_scratch}
use Rattle.avr_model.specs.Assumptions.{jump_line, recur_line, has_scratch}
use Rattle.avr_model.specs.Devices.{Image, device_of}
use Rattle.avr_machine.specs.Quiet.{is_quiet, is_still, protected_at, refused_at, store_answer, push_effect_to, push_answer, jump_answer}
use Rattle.avr_machine.proofs.Unpushed.{unpushed_answer}

-- an effect that neither stores nor pushes
abbrev pub WritesNone : Effect → Type 0
WritesNone e = (e.stores ≡ []) × (e.pushes ≡ [])

binary_none : (image : Image) (m : State) (op : BinaryOp) (d r : ℕ) → WritesNone (binary_effect image m op d r)
binary_none image m binary.Cpc d r = (refl, refl)
binary_none image m binary.Sbc d r = (refl, refl)
binary_none image m binary.Add d r = (refl, refl)
binary_none image m binary.Cpse d r = (refl, refl)
binary_none image m binary.Cp d r = (refl, refl)
binary_none image m binary.Sub d r = (refl, refl)
binary_none image m binary.Adc d r = (refl, refl)
binary_none image m binary.And d r = (refl, refl)
binary_none image m binary.Eor d r = (refl, refl)
binary_none image m binary.Or d r = (refl, refl)
binary_none image m binary.Mov d r = (refl, refl)
binary_none image m binary.Mul d r = (refl, refl)

immediate_none : (m : State) (op : ImmediateOp) (d k : ℕ) → WritesNone (immediate_effect m op d k)
immediate_none m immediate.Cpi d k = (refl, refl)
immediate_none m immediate.Sbci d k = (refl, refl)
immediate_none m immediate.Subi d k = (refl, refl)
immediate_none m immediate.Ori d k = (refl, refl)
immediate_none m immediate.Andi d k = (refl, refl)
immediate_none m immediate.Ldi d k = (refl, refl)

unary_none : (m : State) (op : UnaryOp) (d : ℕ) → WritesNone (unary_effect m op d)
unary_none m unary.Com d = (refl, refl)
unary_none m unary.Neg d = (refl, refl)
unary_none m unary.Swap d = (refl, refl)
unary_none m unary.Inc d = (refl, refl)
unary_none m unary.Asr d = (refl, refl)
unary_none m unary.Lsr d = (refl, refl)
unary_none m unary.Ror d = (refl, refl)
unary_none m unary.Dec d = (refl, refl)

writes_none : (image : Image) (still : Bool) (m : State) (instr : Instr) (b1 b2 : ℕ) → is_quiet instr ≡ true → WritesNone (effect_of image still m instr b1 b2)
writes_none image still m (i.Movw d r) b1 b2 q = (refl, refl)
writes_none image still m (i.Muls d r) b1 b2 q = (refl, refl)
writes_none image still m (i.Mulsu d r) b1 b2 q = (refl, refl)
writes_none image still m (i.Fmul d r) b1 b2 q = (refl, refl)
writes_none image still m (i.Fmuls d r) b1 b2 q = (refl, refl)
writes_none image still m (i.Fmulsu d r) b1 b2 q = (refl, refl)
writes_none image still m (i.Immediate op d k) b1 b2 q = immediate_none m op d k
writes_none image still m (i.Unary op d) b1 b2 q = unary_none m op d
writes_none image still m (i.Adiw d k) b1 b2 q = (refl, refl)
writes_none image still m (i.Sbiw d k) b1 b2 q = (refl, refl)
writes_none image still m (i.Bset s) b1 b2 q = (refl, refl)
writes_none image still m (i.Bclr s) b1 b2 q = (refl, refl)
writes_none image still m (i.Bld d b) b1 b2 q = (refl, refl)
writes_none image still m (i.Bst d b) b1 b2 q = (refl, refl)
writes_none image still m (i.Ldd d b n) b1 b2 q = (refl, refl)
writes_none image still m (i.Lds d k) b1 b2 q = (refl, refl)
writes_none image still m (i.Ld d p) b1 b2 q = (refl, refl)
writes_none image still m (i.LpmZ d) b1 b2 q = (refl, refl)
writes_none image still m (i.ElpmZ d) b1 b2 q = (refl, refl)
writes_none image still m (i.LpmZPlus d) b1 b2 q = (refl, refl)
writes_none image still m (i.ElpmZPlus d) b1 b2 q = (refl, refl)
writes_none image still m i.Lpm b1 b2 q = (refl, refl)
writes_none image still m i.Elpm b1 b2 q = (refl, refl)
writes_none image still m (i.Pop d) b1 b2 q = (refl, refl)
writes_none image still m (i.In d a) b1 b2 q = (refl, refl)
writes_none image still m i.Ret b1 b2 q = (refl, refl)
writes_none image still m i.Reti b1 b2 q = (refl, refl)
writes_none image still m (i.Jmp k) b1 b2 q = (refl, refl)
writes_none image still m (i.Rjmp k) b1 b2 q = (refl, refl)
writes_none image still m (i.Brbs s k) b1 b2 q = (refl, refl)
writes_none image still m (i.Brbc s k) b1 b2 q = (refl, refl)
writes_none image still m (i.Sbic a b) b1 b2 q = (refl, refl)
writes_none image still m (i.Sbis a b) b1 b2 q = (refl, refl)
writes_none image still m (i.Sbrc r b) b1 b2 q = (refl, refl)
writes_none image still m (i.Sbrs r b) b1 b2 q = (refl, refl)
writes_none image still m i.Nop b1 b2 q = (refl, refl)
writes_none image still m i.Sleep b1 b2 q = (refl, refl)
writes_none image still m i.Break b1 b2 q = (refl, refl)
writes_none image still m i.Wdr b1 b2 q = (refl, refl)
writes_none image still m (i.Binary op d r) b1 b2 q = binary_none image m op d r
writes_none image still m (i.Std b n r) b1 b2 q = absurd (cc)
writes_none image still m (i.Sts k r) b1 b2 q = absurd (cc)
writes_none image still m (i.St p r) b1 b2 q = absurd (cc)
writes_none image still m (i.Push r) b1 b2 q = absurd (cc)
writes_none image still m (i.Out a r) b1 b2 q = absurd (cc)
writes_none image still m (i.Cbi a b) b1 b2 q = absurd (cc)
writes_none image still m (i.Sbi a b) b1 b2 q = absurd (cc)
writes_none image still m i.Ijmp b1 b2 q = absurd (cc)
writes_none image still m i.Icall b1 b2 q = absurd (cc)
writes_none image still m i.Eijmp b1 b2 q = absurd (cc)
writes_none image still m i.Eicall b1 b2 q = absurd (cc)
writes_none image still m (i.Call k) b1 b2 q = absurd (cc)
writes_none image still m (i.Rcall k) b1 b2 q = absurd (cc)

not_stored : (instr : Instr) → is_quiet instr ≡ true → is_pointer_store instr ≡ false
not_stored (i.Movw d r) q = refl
not_stored (i.Muls d r) q = refl
not_stored (i.Mulsu d r) q = refl
not_stored (i.Fmul d r) q = refl
not_stored (i.Fmuls d r) q = refl
not_stored (i.Fmulsu d r) q = refl
not_stored (i.Immediate op d k) q = refl
not_stored (i.Unary op d) q = refl
not_stored (i.Adiw d k) q = refl
not_stored (i.Sbiw d k) q = refl
not_stored (i.Bset s) q = refl
not_stored (i.Bclr s) q = refl
not_stored (i.Bld d b) q = refl
not_stored (i.Bst d b) q = refl
not_stored (i.Ldd d b n) q = refl
not_stored (i.Lds d k) q = refl
not_stored (i.Ld d p) q = refl
not_stored (i.LpmZ d) q = refl
not_stored (i.ElpmZ d) q = refl
not_stored (i.LpmZPlus d) q = refl
not_stored (i.ElpmZPlus d) q = refl
not_stored i.Lpm q = refl
not_stored i.Elpm q = refl
not_stored (i.Pop d) q = refl
not_stored (i.In d a) q = refl
not_stored i.Ret q = refl
not_stored i.Reti q = refl
not_stored (i.Jmp k) q = refl
not_stored (i.Rjmp k) q = refl
not_stored (i.Brbs s k) q = refl
not_stored (i.Brbc s k) q = refl
not_stored (i.Sbic a b) q = refl
not_stored (i.Sbis a b) q = refl
not_stored (i.Sbrc r b) q = refl
not_stored (i.Sbrs r b) q = refl
not_stored i.Nop q = refl
not_stored i.Sleep q = refl
not_stored i.Break q = refl
not_stored i.Wdr q = refl
not_stored (i.Binary op d r) q = refl
not_stored (i.Std b n r) q = absurd (cc)
not_stored (i.Sts k r) q = absurd (cc)
not_stored (i.St p r) q = absurd (cc)
not_stored (i.Push r) q = absurd (cc)
not_stored (i.Out a r) q = absurd (cc)
not_stored (i.Cbi a b) q = absurd (cc)
not_stored (i.Sbi a b) q = absurd (cc)
not_stored i.Ijmp q = absurd (cc)
not_stored i.Icall q = absurd (cc)
not_stored i.Eijmp q = absurd (cc)
not_stored i.Eicall q = absurd (cc)
not_stored (i.Call k) q = absurd (cc)
not_stored (i.Rcall k) q = absurd (cc)

not_indirect : (instr : Instr) → is_quiet instr ≡ true → is_indirect instr ≡ false
not_indirect (i.Movw d r) q = refl
not_indirect (i.Muls d r) q = refl
not_indirect (i.Mulsu d r) q = refl
not_indirect (i.Fmul d r) q = refl
not_indirect (i.Fmuls d r) q = refl
not_indirect (i.Fmulsu d r) q = refl
not_indirect (i.Immediate op d k) q = refl
not_indirect (i.Unary op d) q = refl
not_indirect (i.Adiw d k) q = refl
not_indirect (i.Sbiw d k) q = refl
not_indirect (i.Bset s) q = refl
not_indirect (i.Bclr s) q = refl
not_indirect (i.Bld d b) q = refl
not_indirect (i.Bst d b) q = refl
not_indirect (i.Ldd d b n) q = refl
not_indirect (i.Lds d k) q = refl
not_indirect (i.Ld d p) q = refl
not_indirect (i.LpmZ d) q = refl
not_indirect (i.ElpmZ d) q = refl
not_indirect (i.LpmZPlus d) q = refl
not_indirect (i.ElpmZPlus d) q = refl
not_indirect i.Lpm q = refl
not_indirect i.Elpm q = refl
not_indirect (i.Pop d) q = refl
not_indirect (i.In d a) q = refl
not_indirect i.Ret q = refl
not_indirect i.Reti q = refl
not_indirect (i.Jmp k) q = refl
not_indirect (i.Rjmp k) q = refl
not_indirect (i.Brbs s k) q = refl
not_indirect (i.Brbc s k) q = refl
not_indirect (i.Sbic a b) q = refl
not_indirect (i.Sbis a b) q = refl
not_indirect (i.Sbrc r b) q = refl
not_indirect (i.Sbrs r b) q = refl
not_indirect i.Nop q = refl
not_indirect i.Sleep q = refl
not_indirect i.Break q = refl
not_indirect i.Wdr q = refl
not_indirect (i.Binary op d r) q = refl
not_indirect (i.Std b n r) q = absurd (cc)
not_indirect (i.Sts k r) q = absurd (cc)
not_indirect (i.St p r) q = absurd (cc)
not_indirect (i.Push r) q = absurd (cc)
not_indirect (i.Out a r) q = absurd (cc)
not_indirect (i.Cbi a b) q = absurd (cc)
not_indirect (i.Sbi a b) q = absurd (cc)
not_indirect i.Ijmp q = absurd (cc)
not_indirect i.Icall q = absurd (cc)
not_indirect i.Eijmp q = absurd (cc)
not_indirect i.Eicall q = absurd (cc)
not_indirect (i.Call k) q = absurd (cc)
not_indirect (i.Rcall k) q = absurd (cc)

not_called : (instr : Instr) → is_quiet instr ≡ true → is_call instr ≡ false
not_called (i.Movw d r) q = refl
not_called (i.Muls d r) q = refl
not_called (i.Mulsu d r) q = refl
not_called (i.Fmul d r) q = refl
not_called (i.Fmuls d r) q = refl
not_called (i.Fmulsu d r) q = refl
not_called (i.Immediate op d k) q = refl
not_called (i.Unary op d) q = refl
not_called (i.Adiw d k) q = refl
not_called (i.Sbiw d k) q = refl
not_called (i.Bset s) q = refl
not_called (i.Bclr s) q = refl
not_called (i.Bld d b) q = refl
not_called (i.Bst d b) q = refl
not_called (i.Ldd d b n) q = refl
not_called (i.Lds d k) q = refl
not_called (i.Ld d p) q = refl
not_called (i.LpmZ d) q = refl
not_called (i.ElpmZ d) q = refl
not_called (i.LpmZPlus d) q = refl
not_called (i.ElpmZPlus d) q = refl
not_called i.Lpm q = refl
not_called i.Elpm q = refl
not_called (i.Pop d) q = refl
not_called (i.In d a) q = refl
not_called i.Ret q = refl
not_called i.Reti q = refl
not_called (i.Jmp k) q = refl
not_called (i.Rjmp k) q = refl
not_called (i.Brbs s k) q = refl
not_called (i.Brbc s k) q = refl
not_called (i.Sbic a b) q = refl
not_called (i.Sbis a b) q = refl
not_called (i.Sbrc r b) q = refl
not_called (i.Sbrs r b) q = refl
not_called i.Nop q = refl
not_called i.Sleep q = refl
not_called i.Break q = refl
not_called i.Wdr q = refl
not_called (i.Binary op d r) q = refl
not_called (i.Std b n r) q = absurd (cc)
not_called (i.Sts k r) q = absurd (cc)
not_called (i.St p r) q = absurd (cc)
not_called (i.Push r) q = absurd (cc)
not_called (i.Out a r) q = absurd (cc)
not_called (i.Cbi a b) q = absurd (cc)
not_called (i.Sbi a b) q = absurd (cc)
not_called i.Ijmp q = absurd (cc)
not_called i.Icall q = absurd (cc)
not_called i.Eijmp q = absurd (cc)
not_called i.Eicall q = absurd (cc)
not_called (i.Call k) q = absurd (cc)
not_called (i.Rcall k) q = absurd (cc)

none_live : (memory : Memory) (stores pushes : List Write) → stores ≡ [] → pushes ≡ [] → live_write memory (stores ++ pushes) ≡ None
unfolding live_write
none_live memory [] [] e f = refl
none_live memory (w ∷ ws) pushes e f = absurd (cc)
none_live memory [] (w ∷ ws) e f = absurd (cc)

none_moved : (device : Device) (still : Bool) (ws : List Write) → ws ≡ [] → moves_vectors device still ws ≡ false
unfolding moves_vectors
none_moved device true [] e = refl
none_moved device false [] e = refl
none_moved device still (w ∷ ws) e = absurd (cc)

pub none_protected : (image : Image) (entries : List Entry) (pc : ℕ) (instr : Instr) (e : Effect) → is_pointer_store instr ≡ false → protected_write image entries pc instr e ≡ None
unfolding protected_write
none_protected image entries pc instr e plain = simp (plain)

-- ---- refused transfers

module _ (image : Image) (entries : List Entry) (m : State) (instr : Instr) (e : Effect) where
  by_kind : (indirect called : Bool) → is_indirect instr ≡ indirect → is_call instr ≡ called
      → refused_transfer image entries m instr e
      ≡ first_of (if indirect then unless_listed (jump_line entries m.pc) e.pc else None)
      (if called && not (is_scratch image m.pc) then unless_within (recur_line entries e.pc) (fall m) e.pc else None)
  unfolding refused_transfer unlisted_transfer deep_call
  by_kind indirect called is calls = λ i. first_of (if is i then unless_listed (jump_line entries m.pc) e.pc else None)
      (if calls i && not (is_scratch image m.pc) then unless_within (recur_line entries e.pc) (fall m) e.pc else None)

  pub none_refused : is_indirect instr ≡ false → is_call instr ≡ false → refused_transfer image entries m instr e ≡ None
  none_refused plain uncalled = by_kind false false plain uncalled

  pub call_refused : is_indirect instr ≡ false → is_call instr ≡ true → refused_transfer image entries m instr e ≡ refused_at image entries m None e.pc
  call_refused plain called = by_kind false true plain called

  pub indirect_refused : is_indirect instr ≡ true → is_call instr ≡ true
      → refused_transfer image entries m instr e ≡ refused_at image entries m (unless_listed (jump_line entries m.pc) e.pc) e.pc
  indirect_refused indirect called = by_kind true true indirect called

  pub jump_refused : is_indirect instr ≡ true → is_call instr ≡ false → refused_transfer image entries m instr e ≡ unless_listed (jump_line entries m.pc) e.pc
  jump_refused indirect uncalled = by_kind true false indirect uncalled ∙ alone (unless_listed (jump_line entries m.pc) e.pc)
    where
      alone : (o : Option ℕ) → first_of o None ≡ o
      alone None = refl
      alone (Some target) = refl

-- ---- instructions that are quiet

quiet_answer : (image : Image) (entries : List Entry) (m : State) (instr : Instr) (b1 b2 : ℕ) → is_quiet instr ≡ true
    → answer_to image entries m instr (effect_of image (is_still image entries) m instr b1 b2) ≡ Done (after m false (effect_of image (is_still image entries) m instr b1 b2))
quiet_answer image entries m instr b1 b2 q =
    let e = effect_of image (is_still image entries) m instr b1 b2 in
    let none = writes_none image (is_still image entries) m instr b1 b2 q in
    let live = none_live m.memory e.stores e.pushes none.0 none.1 in
    let protected = none_protected image entries m.pc instr e (not_stored instr q) in
    let refused = none_refused image entries m instr e (not_indirect instr q) (not_called instr q) in
    let moved = none_moved (device_of image) (is_still image entries) e.stores none.0 in
    sym (unpushed_answer image entries m instr e false (ap length none.1))
    ∙ (λ i. flagged_or (flag_by m.pc (live i) (protected i) (refused i) (moved i)) (after m false e))

pub quiet_result : (image : Image) (entries : List Entry) (m : State) (instr : Instr) (b1 b2 : ℕ) → is_quiet instr ≡ true
    → result.Done ≡ result_of (answer_to image entries m instr (effect_of image (is_still image entries) m instr b1 b2))
quiet_result image entries m instr b1 b2 q = sym (ap result_of (quiet_answer image entries m instr b1 b2 q))

pub quiet_state : (image : Image) (entries : List Entry) (m : State) (instr : Instr) (b1 b2 : ℕ) → is_quiet instr ≡ true
    → after m false (effect_of image (is_still image entries) m instr b1 b2) ≡ state_after m (answer_to image entries m instr (effect_of image (is_still image entries) m instr b1 b2))
quiet_state image entries m instr b1 b2 q = sym (ap (state_after m) (quiet_answer image entries m instr b1 b2 q))

-- ---- stores

pub stored_answer : (image : Image) (entries : List Entry) (m : State) (instr : Instr) (e : Effect) (protected : Option ℕ) → e.pushes ≡ [] → is_indirect instr ≡ false → is_call instr ≡ false
    → protected_write image entries m.pc instr e ≡ protected → store_answer m protected (moves_vectors (device_of image) (is_still image entries) e.stores) e ≡ answer_to image entries m instr e
stored_answer image entries m instr e protected none plain uncalled is =
    let refused = sym (none_refused image entries m instr e plain uncalled) in
    let pushes = sym none in
    let told = sym is in
    (λ i. flagged_or (flag_by m.pc (live_write m.memory (e.stores ++ pushes i)) (told i) (refused i) (moves_vectors (device_of image) (is_still image entries) e.stores)) (after m false e))
    ∙ unpushed_answer image entries m instr e false (ap length none)

pub pointer_protected : (image : Image) (entries : List Entry) (pc : ℕ) (instr : Instr) (e : Effect) (w : Write) → is_pointer_store instr ≡ true → e.stores ≡ w ∷ [] → protected_write image entries pc instr e ≡ protected_at image entries pc w
unfolding protected_write
pointer_protected image entries pc instr e w pointer one = simp (pointer, one)

-- ---- pushes and computed jumps

pub guards_unless : (image : Image) (entries : List Entry) (pc : ℕ) (instr : Instr) → is_push instr ≡ false → is_guarding image entries pc instr ≡ not (is_scratch image pc)
unfolding is_guarding
guards_unless image entries pc instr other = (λ i. not (is_scratch image pc || (other i && has_scratch entries pc))) ∙ plain (is_scratch image pc)
  where
    plain : (b : Bool) → not (b || false) ≡ not b
    plain true = refl
    plain false = refl

pub guards_push : (image : Image) (entries : List Entry) (pc r : ℕ) → is_guarding image entries pc (i.Push r) ≡ not (is_scratch image pc || has_scratch entries pc)
unfolding is_guarding
guards_push image entries pc r = refl

pub pushed_answer : (image : Image) (entries : List Entry) (m : State) (instr : Instr) (pushes : List Write) (sp target : ℕ) (guarded : Bool) (transfer : Option ℕ) → is_pointer_store instr ≡ false
    → is_guarding image entries m.pc instr ≡ guarded → refused_transfer image entries m instr (push_effect_to m pushes sp target) ≡ transfer
    → push_answer guarded m transfer pushes sp target ≡ answer_to image entries m instr (push_effect_to m pushes sp target)
pushed_answer image entries m instr pushes sp target guarded transfer plain guards is =
    let protected = sym (none_protected image entries m.pc instr (push_effect_to m pushes sp target) plain) in
    let moved = sym (none_moved (device_of image) (is_still image entries) [] refl) in
    let kept = sym guards in
    let told = sym is in
    λ i. if all_inside m.device pushes || is_refused (told i)
    then flagged_or (flag_by m.pc (live_write m.memory pushes) (protected i) (told i) (moved i)) (after m (kept i) (push_effect_to m pushes sp target))
    else Overflow m.pc

pub jumped_answer : (image : Image) (entries : List Entry) (m : State) (instr : Instr) (target : ℕ) (transfer : Option ℕ) → is_pointer_store instr ≡ false
    → refused_transfer image entries m instr (going_to m target) ≡ transfer
    → jump_answer m transfer target ≡ answer_to image entries m instr (going_to m target)
jumped_answer image entries m instr target transfer plain is =
    let live = sym (none_live m.memory [] [] refl refl) in
    let protected = sym (none_protected image entries m.pc instr (going_to m target) plain) in
    let moved = sym (none_moved (device_of image) (is_still image entries) [] refl) in
    let told = sym is in
    (λ i. flagged_or (flag_by m.pc (live i) (protected i) (told i) (moved i)) (after m false (going_to m target)))
    ∙ unpushed_answer image entries m instr (going_to m target) false refl
