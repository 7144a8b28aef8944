-- Worked reports.
use Rattle.std.specs.Prelude.{◌≡◌, ◌∷◌, [], List, Option, Some, None, false, refl, codes}
use Rattle.std.specs.Fmt.{digits}
use Rattle.text_base.specs.Digits.{hex_digits}
use Rattle.serde_json.proofs.OnLiterals.{serde_json_on_literals}
use Rattle.serde_json.specs.Data.{string}
use Rattle.serde_json.specs.Written.{compact_text}
use Rattle.avr_model.specs.Devices.{M48, M328, device_row}
use Rattle.node_keys.specs.declared.keys.Kind.TheVariants.{Root, Call, Vector}
use Rattle.witness_replay.specs.Spelling.{Plan}
use Rattle.certificate.specs.declared.instance.Inst.{Inst}
use Rattle.certificate.specs.declared.version.Version.TheVariants.{Two}
use Rattle.certificate.specs.Claims.{Claim}
use Rattle.reports.specs.Report.{room, fits_word, text_lines}
use Rattle.reports.specs.Json.{json_text}

-- a root with a need of 9 bytes, a call of word 0040, and the vector 17
abbrev pub blinker_insts : List Inst
blinker_insts =
    record { key = record { kind = Root; entry = 0; masks = 0; i = false }; rank = 2; need = 9 }
    ∷ record { key = record { kind = Call; entry = 0x40; masks = 0; i = false }; rank = 1; need = 7 }
    ∷ record { key = record { kind = Vector 17; entry = 0x20; masks = 0x8000; i = false }; rank = 0; need = 5 } ∷ []

-- a certificate of these instances; a report has no nodes
abbrev pub blinker : Option Plan → Claim
blinker witness = record { device = M328; version = Two; bound = 9; assumptions = []; instances = blinker_insts; nodes = []; witness = witness }

-- ---- lines

three_instances : text_lines M328 (blinker None) [] None
    ≡ (codes "bound" ∷ codes "9" ∷ []) ∷ (codes "witness" ∷ codes "open" ∷ []) ∷ (codes "static" ∷ codes "none" ∷ [])
    ∷ (codes "inst" ∷ codes "root" ∷ codes "0000" ∷ codes "0000000" ∷ codes "0" ∷ codes "-" ∷ codes "need" ∷ codes "9" ∷ [])
    ∷ (codes "inst" ∷ codes "call" ∷ codes "0040" ∷ codes "0000000" ∷ codes "0" ∷ codes "-" ∷ codes "need" ∷ codes "7" ∷ [])
    ∷ (codes "inst" ∷ codes "v17" ∷ codes "0020" ∷ codes "0008000" ∷ codes "0" ∷ codes "-" ∷ codes "need" ∷ codes "5" ∷ []) ∷ []
unfolding device_row digits hex_digits
three_instances = refl

-- static data that ends at 0x0104 leaves 2,044 bytes
room_behind : room M328 0x0104 ≡ 2044
unfolding device_row
room_behind = refl

just_fits : fits_word M328 2044 0x0104 ≡ codes "yes"
unfolding device_row
just_fits = refl

one_too_many : fits_word M328 2045 0x0104 ≡ codes "no"
unfolding device_row
one_too_many = refl

-- on a small device static data may end behind SRAM; then nothing fits
small_room : room M48 0x0104 ≡ 508
unfolding device_row
small_room = refl

no_room : room M48 0x0301 ≡ 0
unfolding device_row
no_room = refl

nothing_fits : fits_word M48 0 0x0301 ≡ codes "no"
unfolding device_row
nothing_fits = refl

-- ---- JSON

-- the root alone
abbrev loop : Claim
loop = record {
  device = M328;
  version = Two;
  bound = 0;
  assumptions = [];
  instances = record { key = record { kind = Root; entry = 0; masks = 0; i = false }; rank = 0; need = 0 } ∷ [];
  nodes = [];
  witness = Some (record { fill = 0; runs = [] });
}

no_names : json_text M328 loop [] None
    ≡ codes "{\"bound\":0,\"fits\":null,\"instances\":[{\"enables\":0,\"entry\":0,\"i\":0,\"kind\":\"root\",\"name\":null,\"need\":0}],\"room\":null,\"static\":null,\"witness\":\"attained\"}\n"
unfolding digits serde_json_on_literals
no_names = refl

-- a quote and a backslash in a name
escaped : compact_text (string (codes "a\"b\\c")) ≡ codes "\"a\\\"b\\\\c\""
unfolding serde_json_on_literals
escaped = refl

-- static data that ends at 0x0104
with_static_data : json_text M328 (record loop { instances = [] }) [] (Some 0x0104)
    ≡ codes "{\"bound\":0,\"fits\":\"yes\",\"instances\":[],\"room\":2044,\"static\":260,\"witness\":\"attained\"}\n"
unfolding device_row digits serde_json_on_literals
with_static_data = refl
