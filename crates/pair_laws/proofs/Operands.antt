-- The registers of a decoded instruction exist.
use Rattle.std.proofs.Common.{◌≡◌, subst, ℕ, ◌+◌, ◌<◌, Bool, true, false, if◌then◌else◌, List, [], ◌∷◌, Option, Some, None, arith}
use Rattle.std.specs.Prelude.{⊤, ◌==◌, ◌*◌, ◌≤◌, length}
use Rattle.std.specs.Int.{bit_at}
use Rattle.std.proofs.lemmas.Nat.Bits.{bit_at-lt}
use Prim.Native.String.{String}
use Rattle.avr_model.specs.declared.instruction.Instr.{Instr}
use Rattle.avr_model.specs.declared.device.Device.{Device}
use Rattle.avr_model.specs.Devices.{Image, device_of}
use Rattle.avr_model.specs.Image.{word_at}
use Rattle.avr_model.specs.Sites.{is_lacking, on_device, instruction_at}
use Rattle.avr_model.specs.Pattern.{places, letter}
use Rattle.avr_model.specs.Table.{Row, table, fields, matches, decoded_by, decoded}
use Rattle.pair_rules.specs.Fits.{HasRegisters}

abbrev AreOperandsThere : List Row → Type 0
AreOperandsThere [] = ⊤
AreOperandsThere (row ∷ rows) = ((w next : ℕ) → HasRegisters (row.instr (fields row.pattern w next))) × AreOperandsThere rows

there_in : (rows : List Row) (w next : ℕ) (instr : Instr) → AreOperandsThere rows → decoded_by rows w next ≡ Some instr → HasRegisters instr
there_in [] w next instr h e = absurd (cc)
there_in (row ∷ rows) w next instr h e = here (matches row w) (there_in rows w next instr h.1) e
  where
    some_is : (x : Instr) → Some x ≡ Some instr → x ≡ instr
    some_is x same = cc

    here : (fits : Bool) → (decoded_by rows w next ≡ Some instr → HasRegisters instr)
        → (if fits then Some (row.instr (fields row.pattern w next)) else decoded_by rows w next) ≡ Some instr → HasRegisters instr
    here true rest same = subst HasRegisters (some_is (row.instr (fields row.pattern w next)) same) (h.0 w next)
    here false rest same = rest same

-- the greatest number in the places of a letter: all its bits are 1
abbrev most : ℕ → ℕ → List ℕ → ℕ
most c sofar [] = sofar
most c sofar (x ∷ p) = most c (if x == c then sofar * 2 + 1 else sofar) p

letter_most : (c : ℕ) (p : List ℕ) (sofar greatest w : ℕ) → sofar ≤ greatest → letter c sofar p w ≤ most c greatest p
letter_most c [] sofar greatest w le = le
letter_most c (x ∷ p) sofar greatest w le = letter_most c p _ _ w (by (x == c))
  where
    by : (b : Bool) → (if b then sofar * 2 + bit_at w (length p) else sofar) ≤ (if b then greatest * 2 + 1 else greatest)
    by true = omega (arith, le, bit_at-lt w (length p))
    by false = le

small : (c : ℕ) (pattern : String) (w : ℕ) → letter c 0 (places pattern) w < most c 0 (places pattern) + 1
small c pattern w = omega (arith, letter_most c (places pattern) 0 0 w (omega arith))

sixteen_more : {x : ℕ} → x < 16 → 16 + x < 32
sixteen_more lt = omega arith

twelve_more : {x : ℕ} → x < 4 → 12 + x < 16
twelve_more lt = omega arith

six_bits : {x : ℕ} → x < 64 → x < 256
six_bits lt = omega arith

all_there : AreOperandsThere table
all_there = (
  (λ w next. tt),
  (
    (λ w next. (small 100 "0000 0001 dddd rrrr" w, small 114 "0000 0001 dddd rrrr" w)),
    (
      (λ w next. tt),
      (
        (λ w next. tt),
        (
          (λ w next. tt),
          (
            (λ w next. tt),
            (
              (λ w next. tt),
              (
                (λ w next. (small 100 "0000 01rd dddd rrrr" w, small 114 "0000 01rd dddd rrrr" w)),
                (
                  (λ w next. (small 100 "0000 10rd dddd rrrr" w, small 114 "0000 10rd dddd rrrr" w)),
                  (
                    (λ w next. (small 100 "0000 11rd dddd rrrr" w, small 114 "0000 11rd dddd rrrr" w)),
                    (
                      (λ w next. (small 100 "0001 00rd dddd rrrr" w, small 114 "0001 00rd dddd rrrr" w)),
                      (
                        (λ w next. (small 100 "0001 01rd dddd rrrr" w, small 114 "0001 01rd dddd rrrr" w)),
                        (
                          (λ w next. (small 100 "0001 10rd dddd rrrr" w, small 114 "0001 10rd dddd rrrr" w)),
                          (
                            (λ w next. (small 100 "0001 11rd dddd rrrr" w, small 114 "0001 11rd dddd rrrr" w)),
                            (
                              (λ w next. (small 100 "0010 00rd dddd rrrr" w, small 114 "0010 00rd dddd rrrr" w)),
                              (
                                (λ w next. (small 100 "0010 01rd dddd rrrr" w, small 114 "0010 01rd dddd rrrr" w)),
                                (
                                  (λ w next. (small 100 "0010 10rd dddd rrrr" w, small 114 "0010 10rd dddd rrrr" w)),
                                  (
                                    (λ w next. (small 100 "0010 11rd dddd rrrr" w, small 114 "0010 11rd dddd rrrr" w)),
                                    (
                                      (λ w next. (small 100 "1001 11rd dddd rrrr" w, small 114 "1001 11rd dddd rrrr" w)),
                                      (
                                        (λ w next. (sixteen_more (small 100 "0011 KKKK dddd KKKK" w), small 75 "0011 KKKK dddd KKKK" w)),
                                        (
                                          (λ w next. (sixteen_more (small 100 "0100 KKKK dddd KKKK" w), small 75 "0100 KKKK dddd KKKK" w)),
                                          (
                                            (λ w next. (sixteen_more (small 100 "0101 KKKK dddd KKKK" w), small 75 "0101 KKKK dddd KKKK" w)),
                                            (
                                              (λ w next. (sixteen_more (small 100 "0110 KKKK dddd KKKK" w), small 75 "0110 KKKK dddd KKKK" w)),
                                              (
                                                (λ w next. (sixteen_more (small 100 "0111 KKKK dddd KKKK" w), small 75 "0111 KKKK dddd KKKK" w)),
                                                (
                                                  (λ w next. (sixteen_more (small 100 "1110 KKKK dddd KKKK" w), small 75 "1110 KKKK dddd KKKK" w)),
                                                  (
                                                    (λ w next. small 100 "10q0 qq0d dddd 0qqq" w),
                                                    (
                                                      (λ w next. small 100 "10q0 qq0d dddd 1qqq" w),
                                                      (
                                                        (λ w next. tt),
                                                        (
                                                          (λ w next. tt),
                                                          (
                                                            (λ w next. small 100 "1001 000d dddd 0000" w),
                                                            (
                                                              (λ w next. small 100 "1001 000d dddd 0001" w),
                                                              (
                                                                (λ w next. small 100 "1001 000d dddd 0010" w),
                                                                (
                                                                  (λ w next. small 100 "1001 000d dddd 1001" w),
                                                                  (
                                                                    (λ w next. small 100 "1001 000d dddd 1010" w),
                                                                    (
                                                                      (λ w next. small 100 "1001 000d dddd 1100" w),
                                                                      (
                                                                        (λ w next. small 100 "1001 000d dddd 1101" w),
                                                                        (
                                                                          (λ w next. small 100 "1001 000d dddd 1110" w),
                                                                          (
                                                                            (λ w next. small 100 "1001 000d dddd 0100" w),
                                                                            (
                                                                              (λ w next. small 100 "1001 000d dddd 0101" w),
                                                                              (
                                                                                (λ w next. small 100 "1001 000d dddd 0110" w),
                                                                                (
                                                                                  (λ w next. small 100 "1001 000d dddd 0111" w),
                                                                                  (
                                                                                    (λ w next. small 100 "1001 000d dddd 1111" w),
                                                                                    (
                                                                                      (λ w next. tt),
                                                                                      (
                                                                                        (λ w next. tt),
                                                                                        (
                                                                                          (λ w next. tt),
                                                                                          (
                                                                                            (λ w next. tt),
                                                                                            (
                                                                                              (λ w next. tt),
                                                                                              (
                                                                                                (λ w next. tt),
                                                                                                (
                                                                                                  (λ w next. tt),
                                                                                                  (
                                                                                                    (λ w next. tt),
                                                                                                    (
                                                                                                      (λ w next. tt),
                                                                                                      (
                                                                                                        (λ w next. small 100 "1001 010d dddd 0000" w),
                                                                                                        (
                                                                                                          (λ w next. small 100 "1001 010d dddd 0001" w),
                                                                                                          (
                                                                                                            (λ w next. small 100 "1001 010d dddd 0010" w),
                                                                                                            (
                                                                                                              (λ w next. small 100 "1001 010d dddd 0011" w),
                                                                                                              (
                                                                                                                (λ w next. small 100 "1001 010d dddd 0101" w),
                                                                                                                (
                                                                                                                  (λ w next. small 100 "1001 010d dddd 0110" w),
                                                                                                                  (
                                                                                                                    (λ w next. small 100 "1001 010d dddd 0111" w),
                                                                                                                    (
                                                                                                                      (λ w next. small 100 "1001 010d dddd 1010" w),
                                                                                                                      (
                                                                                                                        (λ w next. tt),
                                                                                                                        (
                                                                                                                          (λ w next. tt),
                                                                                                                          (
                                                                                                                            (λ w next. tt),
                                                                                                                            (
                                                                                                                              (λ w next. tt),
                                                                                                                              (
                                                                                                                                (λ w next. tt),
                                                                                                                                (
                                                                                                                                  (λ w next. tt),
                                                                                                                                  (
                                                                                                                                    (λ w next. tt),
                                                                                                                                    (
                                                                                                                                      (λ w next. tt),
                                                                                                                                      (
                                                                                                                                        (λ w next. tt),
                                                                                                                                        (
                                                                                                                                          (λ w next. tt),
                                                                                                                                          (
                                                                                                                                            (λ w next. tt),
                                                                                                                                            (
                                                                                                                                              (λ w next. tt),
                                                                                                                                              (
                                                                                                                                                (λ w next. tt),
                                                                                                                                                (
                                                                                                                                                  (λ w next. tt),
                                                                                                                                                  (
                                                                                                                                                    (λ w next. tt),
                                                                                                                                                    (
                                                                                                                                                      (λ w next. (twelve_more (small 100 "1001 0110 KKdd KKKK" w), six_bits (small 75 "1001 0110 KKdd KKKK" w))),
                                                                                                                                                      (
                                                                                                                                                        (λ w next. (twelve_more (small 100 "1001 0111 KKdd KKKK" w), six_bits (small 75 "1001 0111 KKdd KKKK" w))),
                                                                                                                                                        (
                                                                                                                                                          (λ w next. tt),
                                                                                                                                                          (
                                                                                                                                                            (λ w next. tt),
                                                                                                                                                            (
                                                                                                                                                              (λ w next. tt),
                                                                                                                                                              (
                                                                                                                                                                (λ w next. tt),
                                                                                                                                                                (
                                                                                                                                                                  (λ w next. small 100 "1011 0AAd dddd AAAA" w),
                                                                                                                                                                  (
                                                                                                                                                                    (λ w next. tt),
                                                                                                                                                                    (
                                                                                                                                                                      (λ w next. tt),
                                                                                                                                                                      (
                                                                                                                                                                        (λ w next. tt),
                                                                                                                                                                        (
                                                                                                                                                                          (λ w next. tt),
                                                                                                                                                                          (
                                                                                                                                                                            (λ w next. tt),
                                                                                                                                                                            (
                                                                                                                                                                              (λ w next. small 100 "1111 100d dddd 0bbb" w),
                                                                                                                                                                              (
                                                                                                                                                                                (λ w next. tt),
                                                                                                                                                                                (
                                                                                                                                                                                  (λ w next. tt),
                                                                                                                                                                                  (
                                                                                                                                                                                    (λ w next. tt),
                                                                                                                                                                                    tt,
                                                                                                                                                                                  ),
                                                                                                                                                                                ),
                                                                                                                                                                              ),
                                                                                                                                                                            ),
                                                                                                                                                                          ),
                                                                                                                                                                        ),
                                                                                                                                                                      ),
                                                                                                                                                                    ),
                                                                                                                                                                  ),
                                                                                                                                                                ),
                                                                                                                                                              ),
                                                                                                                                                            ),
                                                                                                                                                          ),
                                                                                                                                                        ),
                                                                                                                                                      ),
                                                                                                                                                    ),
                                                                                                                                                  ),
                                                                                                                                                ),
                                                                                                                                              ),
                                                                                                                                            ),
                                                                                                                                          ),
                                                                                                                                        ),
                                                                                                                                      ),
                                                                                                                                    ),
                                                                                                                                  ),
                                                                                                                                ),
                                                                                                                              ),
                                                                                                                            ),
                                                                                                                          ),
                                                                                                                        ),
                                                                                                                      ),
                                                                                                                    ),
                                                                                                                  ),
                                                                                                                ),
                                                                                                              ),
                                                                                                            ),
                                                                                                          ),
                                                                                                        ),
                                                                                                      ),
                                                                                                    ),
                                                                                                  ),
                                                                                                ),
                                                                                              ),
                                                                                            ),
                                                                                          ),
                                                                                        ),
                                                                                      ),
                                                                                    ),
                                                                                  ),
                                                                                ),
                                                                              ),
                                                                            ),
                                                                          ),
                                                                        ),
                                                                      ),
                                                                    ),
                                                                  ),
                                                                ),
                                                              ),
                                                            ),
                                                          ),
                                                        ),
                                                      ),
                                                    ),
                                                  ),
                                                ),
                                              ),
                                            ),
                                          ),
                                        ),
                                      ),
                                    ),
                                  ),
                                ),
                              ),
                            ),
                          ),
                        ),
                      ),
                    ),
                  ),
                ),
              ),
            ),
          ),
        ),
      ),
    ),
  ),
)

on_device_is : (device : Device) (x : Option Instr) (instr : Instr) → on_device device x ≡ Some instr → x ≡ Some instr
on_device_is device None instr e = e
on_device_is device (Some x) instr e = by (is_lacking device x) e
  where
    by : (none : Bool) → (if none then None else Some x) ≡ Some instr → Some x ≡ Some instr
    by true same = absurd (cc)
    by false same = same

there : (w next : ℕ) (instr : Instr) → decoded w next ≡ Some instr → HasRegisters instr
unfolding decoded
there w next instr e = there_in table w next instr all_there e

pub registers_there : (image : Image) (pc : ℕ) (instr : Instr) → instruction_at image pc ≡ Some instr → HasRegisters instr
registers_there image pc instr e =
    there (word_at image pc) (word_at image (pc + 1)) instr (on_device_is (device_of image) (decoded (word_at image pc) (word_at image (pc + 1))) instr e)
