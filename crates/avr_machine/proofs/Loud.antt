-- Answers of instructions that store, push or go to a computed word, by rows.
use Rattle.std.proofs.Common.{◌≡◌, ◌∙◌, sym, ap, ap₂, refl, subst, ℕ, ◌+◌, true, false, not, ◌||◌, List, Option, None}
use Rattle.avr_model.specs.declared.instruction.Instr.{Instr}
use Rattle.avr_model.specs.declared.instruction.Instr.TheVariants as i
use Rattle.avr_model.specs.declared.instruction.Base.{Base}
use Rattle.avr_model.specs.declared.instruction.Pointer.{Pointer}
use Rattle.avr_model.specs.declared.assumption.Entry.{Entry}
use Rattle.avr_model.specs.Assumptions.{jump_line, has_scratch}
use Rattle.avr_model.specs.Devices.{Image, wrapped, back_of}
use Rattle.avr_model.specs.Sites.{base_register, is_scratch, pointer_register}
use Rattle.avr_model.specs.State.{State, register, pair, plus16, minus_sp}
use Rattle.avr_model.specs.Bits.{with_bit}
use Rattle.avr_model.specs.Vectors.{kept_byte}
use Rattle.avr_model.specs.Text.{far}
use Rattle.avr_model.specs.Effects.{effect_of, storing, store_effect, further, out_effect, port, bit_effect, pointed, set, way_back, going_to, extended_word}
use Rattle.avr_model.specs.Step.{answer_to, unless_listed}
use Rattle.avr_machine.specs.Quiet.{is_quiet, is_still, protected_at, moves_at, refused_at, store_answer, push_effect_to, push_answer, jump_answer}
use Rattle.avr_model.proofs.AllLaws.{devices_are_alike}
use Rattle.avr_machine.proofs.Quieting.{stored_answer, pushed_answer, jumped_answer, pointer_protected, none_protected, none_refused, call_refused, indirect_refused, jump_refused, guards_unless, guards_push}

pub std_answer : (image : Image) (entries : List Entry) (m : State) (instr : Instr) (b1 b2 : ℕ) (b : Base) (n r : ℕ) → instr ≡ i.Std b n r
    → store_answer m (protected_at image entries m.pc (record { address = (plus16 (pair m (base_register b)) n); byte = register m r })) (moves_at image entries (record { address = (plus16 (pair m (base_register b)) n); byte = register m r })) (storing m (plus16 (pair m (base_register b)) n) (register m r)) ≡ answer_to image entries m instr (effect_of image (is_still image entries) m instr b1 b2)
std_answer image entries m instr b1 b2 b n r is =
    subst (λ x. store_answer m (protected_at image entries m.pc (record { address = (plus16 (pair m (base_register b)) n); byte = register m r })) (moves_at image entries (record { address = (plus16 (pair m (base_register b)) n); byte = register m r })) (storing m (plus16 (pair m (base_register b)) n) (register m r)) ≡ answer_to image entries m x (effect_of image (is_still image entries) m x b1 b2)) (sym is)
    (stored_answer image entries m (i.Std b n r) (storing m (plus16 (pair m (base_register b)) n) (register m r)) (protected_at image entries m.pc (record { address = (plus16 (pair m (base_register b)) n); byte = register m r })) refl refl refl (pointer_protected image entries m.pc (i.Std b n r) (storing m (plus16 (pair m (base_register b)) n) (register m r)) _ refl refl))

pub sts_answer : (image : Image) (entries : List Entry) (m : State) (instr : Instr) (b1 b2 : ℕ) (k r : ℕ) → instr ≡ i.Sts k r
    → store_answer m None (moves_at image entries (record { address = k; byte = register m r })) (record (storing m k (register m r)) { pc = further m 2 }) ≡ answer_to image entries m instr (effect_of image (is_still image entries) m instr b1 b2)
sts_answer image entries m instr b1 b2 k r is =
    subst (λ x. store_answer m None (moves_at image entries (record { address = k; byte = register m r })) (record (storing m k (register m r)) { pc = further m 2 }) ≡ answer_to image entries m x (effect_of image (is_still image entries) m x b1 b2)) (sym is)
    (stored_answer image entries m (i.Sts k r) (record (storing m k (register m r)) { pc = further m 2 }) None refl refl refl (none_protected image entries m.pc (i.Sts k r) (record (storing m k (register m r)) { pc = further m 2 }) refl))

pub st_answer : (image : Image) (entries : List Entry) (m : State) (instr : Instr) (b1 b2 : ℕ) (p : Pointer) (r : ℕ) → instr ≡ i.St p r
    → store_answer m (protected_at image entries m.pc (record { address = pointed p (pair m (pointer_register p)); byte = register m r })) (moves_at image entries (record { address = pointed p (pair m (pointer_register p)); byte = register m r })) (store_effect m p r) ≡ answer_to image entries m instr (effect_of image (is_still image entries) m instr b1 b2)
st_answer image entries m instr b1 b2 p r is =
    subst (λ x. store_answer m (protected_at image entries m.pc (record { address = pointed p (pair m (pointer_register p)); byte = register m r })) (moves_at image entries (record { address = pointed p (pair m (pointer_register p)); byte = register m r })) (store_effect m p r) ≡ answer_to image entries m x (effect_of image (is_still image entries) m x b1 b2)) (sym is)
    (stored_answer image entries m (i.St p r) (store_effect m p r) (protected_at image entries m.pc (record { address = pointed p (pair m (pointer_register p)); byte = register m r })) refl refl refl (pointer_protected image entries m.pc (i.St p r) (store_effect m p r) _ refl refl))

pub out_answer : (image : Image) (entries : List Entry) (m : State) (instr : Instr) (b1 b2 : ℕ) (a r : ℕ) → instr ≡ i.Out a r
    → store_answer m None (moves_at image entries (record { address = port m.device a; byte = register m r })) (out_effect m (port m.device a) (register m r)) ≡ answer_to image entries m instr (effect_of image (is_still image entries) m instr b1 b2)
out_answer image entries m instr b1 b2 a r is =
    subst (λ x. store_answer m None (moves_at image entries (record { address = port m.device a; byte = register m r })) (out_effect m (port m.device a) (register m r)) ≡ answer_to image entries m x (effect_of image (is_still image entries) m x b1 b2)) (sym is)
    (stored_answer image entries m (i.Out a r) (out_effect m (port m.device a) (register m r)) None refl refl refl (none_protected image entries m.pc (i.Out a r) (out_effect m (port m.device a) (register m r)) refl))

pub cbi_answer : (image : Image) (entries : List Entry) (m : State) (instr : Instr) (b1 b2 : ℕ) (a b : ℕ) → instr ≡ i.Cbi a b
    → store_answer m None (moves_at image entries (record { address = port m.device a; byte = with_bit (kept_byte m.device m.enables (port m.device a)) b false })) (bit_effect m (port m.device a) b false) ≡ answer_to image entries m instr (effect_of image (is_still image entries) m instr b1 b2)
cbi_answer image entries m instr b1 b2 a b is =
    subst (λ x. store_answer m None (moves_at image entries (record { address = port m.device a; byte = with_bit (kept_byte m.device m.enables (port m.device a)) b false })) (bit_effect m (port m.device a) b false) ≡ answer_to image entries m x (effect_of image (is_still image entries) m x b1 b2)) (sym is)
    (stored_answer image entries m (i.Cbi a b) (bit_effect m (port m.device a) b false) None refl refl refl (none_protected image entries m.pc (i.Cbi a b) (bit_effect m (port m.device a) b false) refl))

pub sbi_answer : (image : Image) (entries : List Entry) (m : State) (instr : Instr) (b1 b2 : ℕ) (a b : ℕ) → instr ≡ i.Sbi a b
    → store_answer m None (moves_at image entries (record { address = port m.device a; byte = with_bit (kept_byte m.device m.enables (port m.device a)) b true })) (bit_effect m (port m.device a) b true) ≡ answer_to image entries m instr (effect_of image (is_still image entries) m instr b1 b2)
sbi_answer image entries m instr b1 b2 a b is =
    subst (λ x. store_answer m None (moves_at image entries (record { address = port m.device a; byte = with_bit (kept_byte m.device m.enables (port m.device a)) b true })) (bit_effect m (port m.device a) b true) ≡ answer_to image entries m x (effect_of image (is_still image entries) m x b1 b2)) (sym is)
    (stored_answer image entries m (i.Sbi a b) (bit_effect m (port m.device a) b true) None refl refl refl (none_protected image entries m.pc (i.Sbi a b) (bit_effect m (port m.device a) b true) refl))

pub push_row : (image : Image) (entries : List Entry) (m : State) (instr : Instr) (b1 b2 : ℕ) (r : ℕ) → instr ≡ i.Push r
    → push_answer (not (is_scratch image m.pc || has_scratch entries m.pc)) m None (set m.sp (register m r)) (minus_sp m.device m.sp 1) (further m 1) ≡ answer_to image entries m instr (effect_of image (is_still image entries) m instr b1 b2)
push_row image entries m instr b1 b2 r is =
    subst (λ x. push_answer (not (is_scratch image m.pc || has_scratch entries m.pc)) m None (set m.sp (register m r)) (minus_sp m.device m.sp 1) (further m 1) ≡ answer_to image entries m x (effect_of image (is_still image entries) m x b1 b2)) (sym is)
    (pushed_answer image entries m (i.Push r) (set m.sp (register m r)) (minus_sp m.device m.sp 1) (further m 1) (not (is_scratch image m.pc || has_scratch entries m.pc)) None refl (guards_push image entries m.pc r) (none_refused image entries m (i.Push r) (push_effect_to m (set m.sp (register m r)) (minus_sp m.device m.sp 1) (further m 1)) refl refl))

pub call_row : (image : Image) (entries : List Entry) (m : State) (instr : Instr) (b1 b2 : ℕ) (k : ℕ) → instr ≡ i.Call k
    → push_answer (not (is_scratch image m.pc)) m (refused_at image entries m None (wrapped m.device k)) (way_back m.device m.sp (further m 2)) (minus_sp m.device m.sp (back_of m.device)) (k) ≡ answer_to image entries m instr (effect_of image (is_still image entries) m instr b1 b2)
call_row image entries m instr b1 b2 k is =
    subst (λ x. push_answer (not (is_scratch image m.pc)) m (refused_at image entries m None (wrapped m.device k)) (way_back m.device m.sp (further m 2)) (minus_sp m.device m.sp (back_of m.device)) (k) ≡ answer_to image entries m x (effect_of image (is_still image entries) m x b1 b2)) (sym is)
    (pushed_answer image entries m (i.Call k) (way_back m.device m.sp (further m 2)) (minus_sp m.device m.sp (back_of m.device)) (k) (not (is_scratch image m.pc)) (refused_at image entries m None (wrapped m.device k)) refl (guards_unless image entries m.pc (i.Call k) refl) (call_refused image entries m (i.Call k) (push_effect_to m (way_back m.device m.sp (further m 2)) (minus_sp m.device m.sp (back_of m.device)) (k)) refl refl))

pub rcall_row : (image : Image) (entries : List Entry) (m : State) (instr : Instr) (b1 b2 : ℕ) (k : ℕ) → instr ≡ i.Rcall k
    → push_answer (not (is_scratch image m.pc)) m (refused_at image entries m None (wrapped m.device (far m.pc k))) (way_back m.device m.sp (further m 1)) (minus_sp m.device m.sp (back_of m.device)) (far m.pc k) ≡ answer_to image entries m instr (effect_of image (is_still image entries) m instr b1 b2)
rcall_row image entries m instr b1 b2 k is =
    subst (λ x. push_answer (not (is_scratch image m.pc)) m (refused_at image entries m None (wrapped m.device (far m.pc k))) (way_back m.device m.sp (further m 1)) (minus_sp m.device m.sp (back_of m.device)) (far m.pc k) ≡ answer_to image entries m x (effect_of image (is_still image entries) m x b1 b2)) (sym is)
    (pushed_answer image entries m (i.Rcall k) (way_back m.device m.sp (further m 1)) (minus_sp m.device m.sp (back_of m.device)) (far m.pc k) (not (is_scratch image m.pc)) (refused_at image entries m None (wrapped m.device (far m.pc k))) refl (guards_unless image entries m.pc (i.Rcall k) refl) (call_refused image entries m (i.Rcall k) (push_effect_to m (way_back m.device m.sp (further m 1)) (minus_sp m.device m.sp (back_of m.device)) (far m.pc k)) refl refl))

pub icall_row : (image : Image) (entries : List Entry) (m : State) (instr : Instr) (b1 b2 : ℕ) → instr ≡ i.Icall
    → push_answer (not (is_scratch image m.pc)) m (refused_at image entries m (unless_listed (jump_line entries m.pc) (wrapped m.device (pair m 30))) (wrapped m.device (pair m 30))) (way_back m.device m.sp (further m 1)) (minus_sp m.device m.sp (back_of m.device)) (pair m 30) ≡ answer_to image entries m instr (effect_of image (is_still image entries) m instr b1 b2)
icall_row image entries m instr b1 b2 is =
    subst (λ x. push_answer (not (is_scratch image m.pc)) m (refused_at image entries m (unless_listed (jump_line entries m.pc) (wrapped m.device (pair m 30))) (wrapped m.device (pair m 30))) (way_back m.device m.sp (further m 1)) (minus_sp m.device m.sp (back_of m.device)) (pair m 30) ≡ answer_to image entries m x (effect_of image (is_still image entries) m x b1 b2)) (sym is)
    (pushed_answer image entries m i.Icall (way_back m.device m.sp (further m 1)) (minus_sp m.device m.sp (back_of m.device)) (pair m 30) (not (is_scratch image m.pc)) (refused_at image entries m (unless_listed (jump_line entries m.pc) (wrapped m.device (pair m 30))) (wrapped m.device (pair m 30))) refl (guards_unless image entries m.pc i.Icall refl) (indirect_refused image entries m i.Icall (push_effect_to m (way_back m.device m.sp (further m 1)) (minus_sp m.device m.sp (back_of m.device)) (pair m 30)) refl refl))

pub ijmp_row : (image : Image) (entries : List Entry) (m : State) (instr : Instr) (b1 b2 : ℕ) → instr ≡ i.Ijmp
    → jump_answer m (unless_listed (jump_line entries m.pc) (wrapped m.device (pair m 30))) (pair m 30) ≡ answer_to image entries m instr (effect_of image (is_still image entries) m instr b1 b2)
ijmp_row image entries m instr b1 b2 is =
    subst (λ x. jump_answer m (unless_listed (jump_line entries m.pc) (wrapped m.device (pair m 30))) (pair m 30) ≡ answer_to image entries m x (effect_of image (is_still image entries) m x b1 b2)) (sym is)
    (jumped_answer image entries m i.Ijmp (pair m 30) (unless_listed (jump_line entries m.pc) (wrapped m.device (pair m 30))) refl (jump_refused image entries m i.Ijmp (going_to m (pair m 30)) refl refl))

pub eicall_row : (image : Image) (entries : List Entry) (m : State) (instr : Instr) (b1 b2 : ℕ) → instr ≡ i.Eicall
    → push_answer (not (is_scratch image m.pc)) m (refused_at image entries m (unless_listed (jump_line entries m.pc) (wrapped m.device (extended_word m))) (wrapped m.device (extended_word m))) (way_back m.device m.sp (further m 1)) (minus_sp m.device m.sp (back_of m.device)) (extended_word m) ≡ answer_to image entries m instr (effect_of image (is_still image entries) m instr b1 b2)
eicall_row image entries m instr b1 b2 is =
    subst (λ x. push_answer (not (is_scratch image m.pc)) m (refused_at image entries m (unless_listed (jump_line entries m.pc) (wrapped m.device (extended_word m))) (wrapped m.device (extended_word m))) (way_back m.device m.sp (further m 1)) (minus_sp m.device m.sp (back_of m.device)) (extended_word m) ≡ answer_to image entries m x (effect_of image (is_still image entries) m x b1 b2)) (sym is)
    (pushed_answer image entries m i.Eicall (way_back m.device m.sp (further m 1)) (minus_sp m.device m.sp (back_of m.device)) (extended_word m) (not (is_scratch image m.pc)) (refused_at image entries m (unless_listed (jump_line entries m.pc) (wrapped m.device (extended_word m))) (wrapped m.device (extended_word m))) refl (guards_unless image entries m.pc i.Eicall refl) (indirect_refused image entries m i.Eicall (push_effect_to m (way_back m.device m.sp (further m 1)) (minus_sp m.device m.sp (back_of m.device)) (extended_word m)) refl refl))

pub eijmp_row : (image : Image) (entries : List Entry) (m : State) (instr : Instr) (b1 b2 : ℕ) → instr ≡ i.Eijmp
    → jump_answer m (unless_listed (jump_line entries m.pc) (wrapped m.device (extended_word m))) (extended_word m) ≡ answer_to image entries m instr (effect_of image (is_still image entries) m instr b1 b2)
eijmp_row image entries m instr b1 b2 is =
    subst (λ x. jump_answer m (unless_listed (jump_line entries m.pc) (wrapped m.device (extended_word m))) (extended_word m) ≡ answer_to image entries m x (effect_of image (is_still image entries) m x b1 b2)) (sym is)
    (jumped_answer image entries m i.Eijmp (extended_word m) (unless_listed (jump_line entries m.pc) (wrapped m.device (extended_word m))) refl (jump_refused image entries m i.Eijmp (going_to m (extended_word m)) refl refl))

-- stores, with given parts
pub std_row : (image : Image) (entries : List Entry) (m : State) (instr : Instr) (b1 b2 : ℕ) (b : Base) (n r address byte next : ℕ) (protected : Option ℕ) → instr ≡ i.Std b n r → address ≡ plus16 (pair m (base_register b)) n → byte ≡ register m r → next ≡ further m 1 → protected ≡ protected_at image entries m.pc (record { address = address; byte = byte })
    → store_answer m protected (moves_at image entries (record { address = address; byte = byte })) (record (storing m address byte) { pc = next; delay = false }) ≡ answer_to image entries m instr (effect_of image (is_still image entries) m instr b1 b2)
std_row image entries m instr b1 b2 b n r address byte next protected is at held to told =
    ap₂ (λ (protected : Option ℕ) (next : ℕ). store_answer m protected (moves_at image entries (record { address = address; byte = byte })) (record (storing m address byte) { pc = next; delay = false })) told (to ∙ sym (devices_are_alike.twice m.device (m.pc + 1)))
    ∙ ap₂ (λ (address byte : ℕ). store_answer m (protected_at image entries m.pc (record { address = address; byte = byte })) (moves_at image entries (record { address = address; byte = byte })) (storing m address byte)) at held
    ∙ std_answer image entries m instr b1 b2 b n r is

pub sts_row : (image : Image) (entries : List Entry) (m : State) (instr : Instr) (b1 b2 : ℕ) (k r byte next : ℕ) → instr ≡ i.Sts k r → byte ≡ register m r → next ≡ further m 2
    → store_answer m None (moves_at image entries (record { address = k; byte = byte })) (record (storing m k byte) { pc = next; delay = false }) ≡ answer_to image entries m instr (effect_of image (is_still image entries) m instr b1 b2)
sts_row image entries m instr b1 b2 k r byte next is held to =
    ap₂ (λ (byte next : ℕ). store_answer m None (moves_at image entries (record { address = k; byte = byte })) (record (storing m k byte) { pc = next; delay = false })) held to ∙ sts_answer image entries m instr b1 b2 k r is

-- a call, with given words
pub call_answer : (image : Image) (entries : List Entry) (m : State) (instr : Instr) (b1 b2 : ℕ) (k back target : ℕ) → instr ≡ i.Call k → back ≡ further m 2 → target ≡ k
    → push_answer (not (is_scratch image m.pc)) m (refused_at image entries m None (wrapped m.device target)) (way_back m.device m.sp back) (minus_sp m.device m.sp (back_of m.device)) target ≡ answer_to image entries m instr (effect_of image (is_still image entries) m instr b1 b2)
call_answer image entries m instr b1 b2 k back target is there to =
    ap₂ (λ (back target : ℕ). push_answer (not (is_scratch image m.pc)) m (refused_at image entries m None (wrapped m.device target)) (way_back m.device m.sp back) (minus_sp m.device m.sp (back_of m.device)) target) there to ∙ call_row image entries m instr b1 b2 k is

pub rcall_answer : (image : Image) (entries : List Entry) (m : State) (instr : Instr) (b1 b2 : ℕ) (k back target : ℕ) → instr ≡ i.Rcall k → back ≡ further m 1 → target ≡ far m.pc k
    → push_answer (not (is_scratch image m.pc)) m (refused_at image entries m None (wrapped m.device target)) (way_back m.device m.sp back) (minus_sp m.device m.sp (back_of m.device)) target ≡ answer_to image entries m instr (effect_of image (is_still image entries) m instr b1 b2)
rcall_answer image entries m instr b1 b2 k back target is there to =
    ap₂ (λ (back target : ℕ). push_answer (not (is_scratch image m.pc)) m (refused_at image entries m None (wrapped m.device target)) (way_back m.device m.sp back) (minus_sp m.device m.sp (back_of m.device)) target) there to ∙ rcall_row image entries m instr b1 b2 k is

pub icall_answer : (image : Image) (entries : List Entry) (m : State) (instr : Instr) (b1 b2 : ℕ) (unlisted : Option ℕ) (back target : ℕ) → instr ≡ i.Icall → unlisted ≡ unless_listed (jump_line entries m.pc) (wrapped m.device (pair m 30)) → back ≡ further m 1 → target ≡ pair m 30
    → push_answer (not (is_scratch image m.pc)) m (refused_at image entries m unlisted (wrapped m.device target)) (way_back m.device m.sp back) (minus_sp m.device m.sp (back_of m.device)) target ≡ answer_to image entries m instr (effect_of image (is_still image entries) m instr b1 b2)
icall_answer image entries m instr b1 b2 unlisted back target is other there to =
    ap (λ (o : Option ℕ). push_answer (not (is_scratch image m.pc)) m (refused_at image entries m o (wrapped m.device target)) (way_back m.device m.sp back) (minus_sp m.device m.sp (back_of m.device)) target) other
    ∙ ap₂ (λ (back target : ℕ). push_answer (not (is_scratch image m.pc)) m (refused_at image entries m (unless_listed (jump_line entries m.pc) (wrapped m.device (pair m 30))) (wrapped m.device target)) (way_back m.device m.sp back) (minus_sp m.device m.sp (back_of m.device)) target) there to
    ∙ icall_row image entries m instr b1 b2 is

pub eicall_answer : (image : Image) (entries : List Entry) (m : State) (instr : Instr) (b1 b2 : ℕ) (unlisted : Option ℕ) (back target : ℕ) → instr ≡ i.Eicall → unlisted ≡ unless_listed (jump_line entries m.pc) (wrapped m.device (extended_word m)) → back ≡ further m 1 → target ≡ extended_word m
    → push_answer (not (is_scratch image m.pc)) m (refused_at image entries m unlisted (wrapped m.device target)) (way_back m.device m.sp back) (minus_sp m.device m.sp (back_of m.device)) target ≡ answer_to image entries m instr (effect_of image (is_still image entries) m instr b1 b2)
eicall_answer image entries m instr b1 b2 unlisted back target is other there to =
    ap (λ (o : Option ℕ). push_answer (not (is_scratch image m.pc)) m (refused_at image entries m o (wrapped m.device target)) (way_back m.device m.sp back) (minus_sp m.device m.sp (back_of m.device)) target) other
    ∙ ap₂ (λ (back target : ℕ). push_answer (not (is_scratch image m.pc)) m (refused_at image entries m (unless_listed (jump_line entries m.pc) (wrapped m.device (extended_word m))) (wrapped m.device target)) (way_back m.device m.sp back) (minus_sp m.device m.sp (back_of m.device)) target) there to
    ∙ eicall_row image entries m instr b1 b2 is

-- there is no further instruction
pub none_left : (instr : Instr) → is_quiet instr ≡ false
    → ((b : Base) (n r : ℕ) → instr ≡ i.Std b n r → ⊥)
    → ((k r : ℕ) → instr ≡ i.Sts k r → ⊥)
    → ((p : Pointer) (r : ℕ) → instr ≡ i.St p r → ⊥)
    → ((a r : ℕ) → instr ≡ i.Out a r → ⊥)
    → ((a b : ℕ) → instr ≡ i.Cbi a b → ⊥)
    → ((a b : ℕ) → instr ≡ i.Sbi a b → ⊥)
    → ((r : ℕ) → instr ≡ i.Push r → ⊥)
    → ((k : ℕ) → instr ≡ i.Call k → ⊥)
    → ((k : ℕ) → instr ≡ i.Rcall k → ⊥)
    → (instr ≡ i.Icall → ⊥)
    → (instr ≡ i.Ijmp → ⊥)
    → (instr ≡ i.Eicall → ⊥)
    → (instr ≡ i.Eijmp → ⊥)
    → ⊥
none_left (i.Movw d r) loud no_std no_sts no_st no_out no_cbi no_sbi no_push no_call no_rcall no_icall no_ijmp no_eicall no_eijmp = absurd (cc)
none_left (i.Muls d r) loud no_std no_sts no_st no_out no_cbi no_sbi no_push no_call no_rcall no_icall no_ijmp no_eicall no_eijmp = absurd (cc)
none_left (i.Mulsu d r) loud no_std no_sts no_st no_out no_cbi no_sbi no_push no_call no_rcall no_icall no_ijmp no_eicall no_eijmp = absurd (cc)
none_left (i.Fmul d r) loud no_std no_sts no_st no_out no_cbi no_sbi no_push no_call no_rcall no_icall no_ijmp no_eicall no_eijmp = absurd (cc)
none_left (i.Fmuls d r) loud no_std no_sts no_st no_out no_cbi no_sbi no_push no_call no_rcall no_icall no_ijmp no_eicall no_eijmp = absurd (cc)
none_left (i.Fmulsu d r) loud no_std no_sts no_st no_out no_cbi no_sbi no_push no_call no_rcall no_icall no_ijmp no_eicall no_eijmp = absurd (cc)
none_left (i.Immediate op d k) loud no_std no_sts no_st no_out no_cbi no_sbi no_push no_call no_rcall no_icall no_ijmp no_eicall no_eijmp = absurd (cc)
none_left (i.Unary op d) loud no_std no_sts no_st no_out no_cbi no_sbi no_push no_call no_rcall no_icall no_ijmp no_eicall no_eijmp = absurd (cc)
none_left (i.Adiw d k) loud no_std no_sts no_st no_out no_cbi no_sbi no_push no_call no_rcall no_icall no_ijmp no_eicall no_eijmp = absurd (cc)
none_left (i.Sbiw d k) loud no_std no_sts no_st no_out no_cbi no_sbi no_push no_call no_rcall no_icall no_ijmp no_eicall no_eijmp = absurd (cc)
none_left (i.Bset s) loud no_std no_sts no_st no_out no_cbi no_sbi no_push no_call no_rcall no_icall no_ijmp no_eicall no_eijmp = absurd (cc)
none_left (i.Bclr s) loud no_std no_sts no_st no_out no_cbi no_sbi no_push no_call no_rcall no_icall no_ijmp no_eicall no_eijmp = absurd (cc)
none_left (i.Bld d b) loud no_std no_sts no_st no_out no_cbi no_sbi no_push no_call no_rcall no_icall no_ijmp no_eicall no_eijmp = absurd (cc)
none_left (i.Bst d b) loud no_std no_sts no_st no_out no_cbi no_sbi no_push no_call no_rcall no_icall no_ijmp no_eicall no_eijmp = absurd (cc)
none_left (i.Ldd d b n) loud no_std no_sts no_st no_out no_cbi no_sbi no_push no_call no_rcall no_icall no_ijmp no_eicall no_eijmp = absurd (cc)
none_left (i.Lds d k) loud no_std no_sts no_st no_out no_cbi no_sbi no_push no_call no_rcall no_icall no_ijmp no_eicall no_eijmp = absurd (cc)
none_left (i.Ld d p) loud no_std no_sts no_st no_out no_cbi no_sbi no_push no_call no_rcall no_icall no_ijmp no_eicall no_eijmp = absurd (cc)
none_left (i.LpmZ d) loud no_std no_sts no_st no_out no_cbi no_sbi no_push no_call no_rcall no_icall no_ijmp no_eicall no_eijmp = absurd (cc)
none_left (i.ElpmZ d) loud no_std no_sts no_st no_out no_cbi no_sbi no_push no_call no_rcall no_icall no_ijmp no_eicall no_eijmp = absurd (cc)
none_left (i.LpmZPlus d) loud no_std no_sts no_st no_out no_cbi no_sbi no_push no_call no_rcall no_icall no_ijmp no_eicall no_eijmp = absurd (cc)
none_left (i.ElpmZPlus d) loud no_std no_sts no_st no_out no_cbi no_sbi no_push no_call no_rcall no_icall no_ijmp no_eicall no_eijmp = absurd (cc)
none_left i.Lpm loud no_std no_sts no_st no_out no_cbi no_sbi no_push no_call no_rcall no_icall no_ijmp no_eicall no_eijmp = absurd (cc)
none_left i.Elpm loud no_std no_sts no_st no_out no_cbi no_sbi no_push no_call no_rcall no_icall no_ijmp no_eicall no_eijmp = absurd (cc)
none_left (i.Pop d) loud no_std no_sts no_st no_out no_cbi no_sbi no_push no_call no_rcall no_icall no_ijmp no_eicall no_eijmp = absurd (cc)
none_left (i.In d a) loud no_std no_sts no_st no_out no_cbi no_sbi no_push no_call no_rcall no_icall no_ijmp no_eicall no_eijmp = absurd (cc)
none_left i.Ret loud no_std no_sts no_st no_out no_cbi no_sbi no_push no_call no_rcall no_icall no_ijmp no_eicall no_eijmp = absurd (cc)
none_left i.Reti loud no_std no_sts no_st no_out no_cbi no_sbi no_push no_call no_rcall no_icall no_ijmp no_eicall no_eijmp = absurd (cc)
none_left (i.Jmp k) loud no_std no_sts no_st no_out no_cbi no_sbi no_push no_call no_rcall no_icall no_ijmp no_eicall no_eijmp = absurd (cc)
none_left (i.Rjmp k) loud no_std no_sts no_st no_out no_cbi no_sbi no_push no_call no_rcall no_icall no_ijmp no_eicall no_eijmp = absurd (cc)
none_left (i.Brbs s k) loud no_std no_sts no_st no_out no_cbi no_sbi no_push no_call no_rcall no_icall no_ijmp no_eicall no_eijmp = absurd (cc)
none_left (i.Brbc s k) loud no_std no_sts no_st no_out no_cbi no_sbi no_push no_call no_rcall no_icall no_ijmp no_eicall no_eijmp = absurd (cc)
none_left (i.Sbic a b) loud no_std no_sts no_st no_out no_cbi no_sbi no_push no_call no_rcall no_icall no_ijmp no_eicall no_eijmp = absurd (cc)
none_left (i.Sbis a b) loud no_std no_sts no_st no_out no_cbi no_sbi no_push no_call no_rcall no_icall no_ijmp no_eicall no_eijmp = absurd (cc)
none_left (i.Sbrc r b) loud no_std no_sts no_st no_out no_cbi no_sbi no_push no_call no_rcall no_icall no_ijmp no_eicall no_eijmp = absurd (cc)
none_left (i.Sbrs r b) loud no_std no_sts no_st no_out no_cbi no_sbi no_push no_call no_rcall no_icall no_ijmp no_eicall no_eijmp = absurd (cc)
none_left i.Nop loud no_std no_sts no_st no_out no_cbi no_sbi no_push no_call no_rcall no_icall no_ijmp no_eicall no_eijmp = absurd (cc)
none_left i.Sleep loud no_std no_sts no_st no_out no_cbi no_sbi no_push no_call no_rcall no_icall no_ijmp no_eicall no_eijmp = absurd (cc)
none_left i.Break loud no_std no_sts no_st no_out no_cbi no_sbi no_push no_call no_rcall no_icall no_ijmp no_eicall no_eijmp = absurd (cc)
none_left i.Wdr loud no_std no_sts no_st no_out no_cbi no_sbi no_push no_call no_rcall no_icall no_ijmp no_eicall no_eijmp = absurd (cc)
none_left (i.Binary op d r) loud no_std no_sts no_st no_out no_cbi no_sbi no_push no_call no_rcall no_icall no_ijmp no_eicall no_eijmp = absurd (cc)
none_left (i.Std b n r) loud no_std no_sts no_st no_out no_cbi no_sbi no_push no_call no_rcall no_icall no_ijmp no_eicall no_eijmp = no_std b n r refl
none_left (i.Sts k r) loud no_std no_sts no_st no_out no_cbi no_sbi no_push no_call no_rcall no_icall no_ijmp no_eicall no_eijmp = no_sts k r refl
none_left (i.St p r) loud no_std no_sts no_st no_out no_cbi no_sbi no_push no_call no_rcall no_icall no_ijmp no_eicall no_eijmp = no_st p r refl
none_left (i.Push r) loud no_std no_sts no_st no_out no_cbi no_sbi no_push no_call no_rcall no_icall no_ijmp no_eicall no_eijmp = no_push r refl
none_left (i.Out a r) loud no_std no_sts no_st no_out no_cbi no_sbi no_push no_call no_rcall no_icall no_ijmp no_eicall no_eijmp = no_out a r refl
none_left (i.Cbi a b) loud no_std no_sts no_st no_out no_cbi no_sbi no_push no_call no_rcall no_icall no_ijmp no_eicall no_eijmp = no_cbi a b refl
none_left (i.Sbi a b) loud no_std no_sts no_st no_out no_cbi no_sbi no_push no_call no_rcall no_icall no_ijmp no_eicall no_eijmp = no_sbi a b refl
none_left i.Ijmp loud no_std no_sts no_st no_out no_cbi no_sbi no_push no_call no_rcall no_icall no_ijmp no_eicall no_eijmp = no_ijmp refl
none_left i.Icall loud no_std no_sts no_st no_out no_cbi no_sbi no_push no_call no_rcall no_icall no_ijmp no_eicall no_eijmp = no_icall refl
none_left i.Eijmp loud no_std no_sts no_st no_out no_cbi no_sbi no_push no_call no_rcall no_icall no_ijmp no_eicall no_eijmp = no_eijmp refl
none_left i.Eicall loud no_std no_sts no_st no_out no_cbi no_sbi no_push no_call no_rcall no_icall no_ijmp no_eicall no_eijmp = no_eicall refl
none_left (i.Call k) loud no_std no_sts no_st no_out no_cbi no_sbi no_push no_call no_rcall no_icall no_ijmp no_eicall no_eijmp = no_call k refl
none_left (i.Rcall k) loud no_std no_sts no_st no_out no_cbi no_sbi no_push no_call no_rcall no_icall no_ijmp no_eicall no_eijmp = no_rcall k refl
