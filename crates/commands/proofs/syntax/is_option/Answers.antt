use Rattle.std.proofs.Common.{◌≡◌, ◌-◌, ap, sym, ◌∙◌, codes, get_or, length, drop, take, arith}
use Rattle.std.specs.Str.{bytes_eq}
use Rattle.commands.specs.Lines.{is_option}
use Rattle.commands.proofs.Listed.{hyphened, listed}
use Rattle.commands.proofs.syntax.is_option.Goals as goal

pub returns-in-45 : goal.returns-in-45
returns-in-45 c =
    let word = c.as_bytes.result.now in
    let first : get_or word 0 0 ≡ 45 = omega arith in
    let second : get_or word 1 0 ≡ 45 = omega arith in
    let name = take (length word - 2) (drop 2 word) in
    let is = ap is_option (sym (hyphened word c.in-45.len_at_least first second)) in
    c.is_option_of.ensures
    ∙ listed (bytes_eq name (codes "assume")) (bytes_eq name (codes "device")) (bytes_eq name (codes "steps")) (bytes_eq name (codes "trials")) (bytes_eq name (codes "json")) (bytes_eq name (codes "why"))
    ∙ is ∙ ap is_option c.as_bytes.ensures.value
