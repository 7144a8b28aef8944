use Rattle.std.proofs.Common.{ap, sym, subst, true, ◌≡◌, ◌∙◌}
use Rattle.std.specs.Option.{option_map}
use Rattle.elf_load.specs.Elf.{is_elf}
use Rattle.replies.specs.Texts.{elf_refused}
use Rattle.replies.proofs.AllLaws.{one_elf}
use Rattle.stack_core.specs.Answering.{LoadsBy}
use Rattle.stack_core.specs.declared.loading.Loading.TheVariants.{Loaded}
use Rattle.stack_core.proofs.loading.whole.Goals as goal

pub returns-in-Ok : goal.returns-in-Ok
returns-in-Ok c =
    let elf : is_elf c.args.bytes.now ≡ true = sym c.is_elf.ensures ∙ c.if-not-is_elf.false in
    subst (λ e. LoadsBy c.args.device e c.args.bytes.now (Loaded c.in-Ok.loaded)) (sym elf) (record {
      loads = ap (option_map elf_refused) c.in-Ok.ensures.refusal;
      size = c.in-Ok.ensures.image.size;
      words = one_elf c.args.device c.args.bytes.now _ c.in-Ok.ensures.image;
      names = c.in-Ok.ensures.names;
      static_end = c.in-Ok.ensures.static_end;
    })
