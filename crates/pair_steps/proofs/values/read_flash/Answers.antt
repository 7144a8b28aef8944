use Rattle.std.proofs.Common.{◌≡◌, sym, ◌∙◌, ap, subst, ◌*◌, if◌then◌else◌, Option, Some, None}
use Rattle.pair_domain.specs.PairSets.{PairSet}
use Rattle.abs_state.specs.declared.values.AbsByte.{AbsByte}
use Rattle.abs_state.specs.declared.state.AbsState.{AbsState}
use Rattle.pair_rules.specs.Flash.{pair_permits, few_in_flash, flash_joined}
use Rattle.pair_rules.specs.Values.{z_of}
use Rattle.pair_steps.proofs.Counting.{read_some, read_none}
use Rattle.pair_steps.proofs.values.read_flash.Goals as goal

pub returns-in-Some-Some : goal.returns-in-Some-Some
returns-in-Some-Some c =
    let z = z_of c.args.before.now c.args.facts.now in
    let told =
    subst (λ (p : PairSet). c.joined.result ≡ (if few_in_flash c.args.flash.now (65536 * c.args.bank) (pair_permits p) then Some (flash_joined c.args.flash.now (65536 * c.args.bank) (pair_permits p)) else None)) c.z_of.ensures
    c.joined.ensures in
    ap (λ (t : AbsState). Some t) c.set.ensures
    ∙ read_some (few_in_flash c.args.flash.now (65536 * c.args.bank) (pair_permits z)) (flash_joined c.args.flash.now (65536 * c.args.bank) (pair_permits z)) (Some c.in-Some-Some.value) c.args.after.now c.args.d
    (sym (c.in-Some-Some.is ∙ ap (λ (o : Option AbsByte). Some o) c.in-Some-Some.field-0-is) ∙ told)

pub returns-in-Some-None : goal.returns-in-Some-None
returns-in-Some-None c =
    let z = z_of c.args.before.now c.args.facts.now in
    let told =
    subst (λ (p : PairSet). c.joined.result ≡ (if few_in_flash c.args.flash.now (65536 * c.args.bank) (pair_permits p) then Some (flash_joined c.args.flash.now (65536 * c.args.bank) (pair_permits p)) else None)) c.z_of.ensures
    c.joined.ensures in
    read_some (few_in_flash c.args.flash.now (65536 * c.args.bank) (pair_permits z)) (flash_joined c.args.flash.now (65536 * c.args.bank) (pair_permits z)) None c.args.after.now c.args.d
    (sym (c.in-Some-None.is ∙ ap (λ (o : Option AbsByte). Some o) c.in-Some-None.field-0-is) ∙ told)

pub returns-in-None : goal.returns-in-None
returns-in-None c =
    let z = z_of c.args.before.now c.args.facts.now in
    let told =
    subst (λ (p : PairSet). c.joined.result ≡ (if few_in_flash c.args.flash.now (65536 * c.args.bank) (pair_permits p) then Some (flash_joined c.args.flash.now (65536 * c.args.bank) (pair_permits p)) else None)) c.z_of.ensures
    c.joined.ensures in
    read_none (few_in_flash c.args.flash.now (65536 * c.args.bank) (pair_permits z)) (flash_joined c.args.flash.now (65536 * c.args.bank) (pair_permits z)) c.args.after.now c.args.d (sym c.in-None.is ∙ told)
