use Rattle.std.proofs.Common.{◌≡◌, drop}
use Rattle.std.specs.List.{find}
use Rattle.std.specs.Str.{bytes_eq}
use Rattle.text_base.proofs.memory.find_file.Given as goal

abbrev pub invariant-loop-file : goal.invariant-loop-file
invariant-loop-file l = find (λ f. bytes_eq f.name l.name) l.files ≡ find (λ f. bytes_eq f.name l.name) (drop l.file-index l.files)
