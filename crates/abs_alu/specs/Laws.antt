-- Laws of the operations: an abstract result covers the machine's result for each choice of members of the operands, and is monotone.
use Rattle.std.specs.Prelude.{ℕ, Bool, true, false, ◌-◌, ◌/◌, ◌%◌, ◌<◌}
use Rattle.std.specs.Int.{from_bool}
use Rattle.avr_model.specs.declared.operation.Logic.{Logic}
use Rattle.avr_model.specs.declared.operation.Shift.{Shift}
use Rattle.avr_model.specs.declared.operation.Mul.{Mul}
use Rattle.avr_model.specs.Sreg.{flag}
use Rattle.avr_model.specs.Sums.{sum_of, flags_of_sum, difference_of, flags_of_difference}
use Rattle.avr_model.specs.Bitwise.{logic_of, flags_of_result, step_of, step_overflows, shift_of, flags_of_shift}
use Rattle.avr_model.specs.Product.{result_of, flags_of_product}
use Rattle.avr_model.specs.Wide.{wide_of, flags_of_wide}
use Rattle.bit_domain.specs.declared.bits.Tri.{Tri}
use Rattle.bit_domain.specs.declared.bytes.TriByte.{TriByte}
use Rattle.bit_domain.specs.Tri.{Permits, IsTriWithin}
use Rattle.bit_domain.specs.TriByte.{Has, IsWithin}
use Rattle.abs_alu.specs.Sums.{abs_add, abs_sub}
use Rattle.abs_alu.specs.Bitwise.{abs_logic, abs_com, abs_step_one, abs_shift}
use Rattle.abs_alu.specs.Product.{abs_mul}
use Rattle.abs_alu.specs.Words.{abs_wide}

-- a result covers a byte and a status register
abbrev pub Covers : TriByte × TriByte → ℕ → ℕ → Type 0
Covers answer r f = Has answer.0 r × Has answer.1 f

-- a result covers a word, by its low and high byte, and a status register
abbrev pub CoversWord : (TriByte × TriByte) × TriByte → ℕ → ℕ → Type 0
CoversWord answer r f = Has answer.0.0 (r % 256) × Has answer.0.1 (r / 256) × Has answer.1 f

-- one result is within another
abbrev pub AreBothWithin : TriByte × TriByte → TriByte × TriByte → Type 0
AreBothWithin p q = IsWithin p.0 q.0 × IsWithin p.1 q.1

abbrev pub IsAnswerWithin : (TriByte × TriByte) × TriByte → (TriByte × TriByte) × TriByte → Type 0
IsAnswerWithin p q = AreBothWithin p.0 q.0 × IsWithin p.1 q.1

-- in each law x and y are members of the operands, w is a member of the status register, and c is a permitted carry or borrow
pub record SumsCover : Type 0 where
  pub sums : (a b s : TriByte) (carry : Tri) (x y w : ℕ) (c : Bool) → x < 256 → y < 256
      → Has a x → Has b y → Has s w → Permits carry (from_bool c)
      → Covers (abs_add a b carry s) (sum_of x y c % 256) (flags_of_sum x y c w)
  pub differences : (a b s : TriByte) (borrow : Tri) (keep_zero : Bool) (x y w : ℕ) (c : Bool) → x < 256 → y < 256
      → Has a x → Has b y → Has s w → Permits borrow (from_bool c)
      → Covers (abs_sub a b borrow keep_zero s) (difference_of x y c) (flags_of_difference x y c keep_zero w)

pub record BitwiseCovers : Type 0 where
  pub logics : (op : Logic) (a b s : TriByte) (x y w : ℕ) → x < 256 → y < 256 → Has a x → Has b y → Has s w
      → Covers (abs_logic op a b s) (logic_of op x y) (flags_of_result (flag w 0) false (logic_of op x y) w)
  pub coms : (a s : TriByte) (x w : ℕ) → x < 256 → Has a x → Has s w
      → Covers (abs_com a s) (255 - x) (flags_of_result true false (255 - x) w)
  pub steps : (up : Bool) (a s : TriByte) (x w : ℕ) → x < 256 → Has a x → Has s w
      → Covers (abs_step_one up a s) (step_of up x) (flags_of_result (flag w 0) (step_overflows up (step_of up x)) (step_of up x) w)
  pub shifts : (op : Shift) (a s : TriByte) (x w : ℕ) → x < 256 → Has a x → Has s w
      → Covers (abs_shift op a s) (shift_of op x w) (flags_of_shift x (shift_of op x w) w)

pub record ProductsCover : Type 0 where
  pub products : (op : Mul) (a b s : TriByte) (x y w : ℕ) → x < 256 → y < 256 → Has a x → Has b y → Has s w
      → CoversWord (abs_mul op a b s) (result_of op x y) (flags_of_product op x y w)

pub record WordsCover : Type 0 where
  pub words : (up : Bool) (a : TriByte × TriByte) (s : TriByte) (x k w : ℕ) → x < 65536 → k < 256
      → Has a.0 (x % 256) → Has a.1 (x / 256) → Has s w
      → CoversWord (abs_wide up a k s) (wide_of up x k) (flags_of_wide up x k w)

pub record OperationsAreMonotone : Type 0 where
  pub sums : (a b s a' b' s' : TriByte) (carry carry' : Tri) → IsWithin a a' → IsWithin b b' → IsWithin s s' → IsTriWithin carry carry'
      → AreBothWithin (abs_add a b carry s) (abs_add a' b' carry' s')
  pub differences : (a b s a' b' s' : TriByte) (borrow borrow' : Tri) (keep_zero : Bool) → IsWithin a a' → IsWithin b b' → IsWithin s s' → IsTriWithin borrow borrow'
      → AreBothWithin (abs_sub a b borrow keep_zero s) (abs_sub a' b' borrow' keep_zero s')
  pub logics : (op : Logic) (a b s a' b' s' : TriByte) → IsWithin a a' → IsWithin b b' → IsWithin s s'
      → AreBothWithin (abs_logic op a b s) (abs_logic op a' b' s')
  pub coms : (a s a' s' : TriByte) → IsWithin a a' → IsWithin s s' → AreBothWithin (abs_com a s) (abs_com a' s')
  pub steps : (up : Bool) (a s a' s' : TriByte) → IsWithin a a' → IsWithin s s' → AreBothWithin (abs_step_one up a s) (abs_step_one up a' s')
  pub shifts : (op : Shift) (a s a' s' : TriByte) → IsWithin a a' → IsWithin s s' → AreBothWithin (abs_shift op a s) (abs_shift op a' s')
  pub products : (op : Mul) (a b s a' b' s' : TriByte) → IsWithin a a' → IsWithin b b' → IsWithin s s'
      → IsAnswerWithin (abs_mul op a b s) (abs_mul op a' b' s')
  pub words : (up : Bool) (a a' : TriByte × TriByte) (k : ℕ) (s s' : TriByte) → AreBothWithin a a' → IsWithin s s'
      → IsAnswerWithin (abs_wide up a k s) (abs_wide up a' k s')
