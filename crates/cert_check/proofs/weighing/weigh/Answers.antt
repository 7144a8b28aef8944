use Rattle.std.proofs.Common.{◌≡◌, sym, ap, ◌∙◌, subst, Some, arith}
use Rattle.node_keys.specs.Keys.{root_inst}
use Rattle.certificate.specs.Insts.{need_in}
use Rattle.cert_check.specs.Demands.{AreInstances, AreDemandsInside, IsLeastOffered, MeetsRank, LowRank, PairBelow, MeetsNeed, LowNeed, NumberBelow, RanksFall, AllMet, need_at}
use Rattle.cert_check.proofs.Insts.{need_there}
use Rattle.cert_check.proofs.One.{are_instances}
use Rattle.cert_check.proofs.Verdicts.{inst_fits, need_fits}
use Rattle.cert_check.proofs.weighing.weigh.Goals as goal

pub low_rank-requires : goal.low_rank-requires
low_rank-requires c = subst (λ i. AreDemandsInside i c.args.demands.now) (sym c.instances-instances.ensures) c.requires.inside

pub overflow_cast-result : goal.overflow_cast-result
overflow_cast-result c =
    let least = subst (λ i. IsLeastOffered (MeetsRank i) (LowRank i) PairBelow c.args.demands.now (Some (c.in-Some.j, c.in-Some.l))) c.instances-instances.ensures c.in-Some.ensures in
    let fits = inst_fits c.args.certificate.now.instances c.args.demands.now c.in-Some.j c.in-Some.l c.requires.claim.few_insts c.requires.inside least in
    omega (arith, fits.0)

pub overflow_cast-result-in-Some : goal.overflow_cast-result-in-Some
overflow_cast-result-in-Some c =
    let least = subst (λ i. IsLeastOffered (MeetsRank i) (LowRank i) PairBelow c.args.demands.now (Some (c.in-Some.j, c.in-Some.l))) c.instances-instances.ensures c.in-Some.ensures in
    let fits = inst_fits c.args.certificate.now.instances c.args.demands.now c.in-Some.j c.in-Some.l c.requires.claim.few_insts c.requires.inside least in
    omega (arith, fits.1)

pub returns-in-Some : goal.returns-in-Some
returns-in-Some c = subst (λ i. IsLeastOffered (MeetsRank i) (LowRank i) PairBelow c.args.demands.now (Some (c.in-Some.j, c.in-Some.l))) c.instances-instances.ensures c.in-Some.ensures

pub low_need-requires-clause-inside : goal.low_need-requires-clause-inside
low_need-requires-clause-inside c = subst (λ i. AreDemandsInside i c.args.demands.now) (sym c.instances-instances.ensures) c.requires.inside

pub low_need-requires-clause-instances : goal.low_need-requires-clause-instances
low_need-requires-clause-instances c = subst AreInstances (sym c.instances-instances.ensures) (are_instances c.args.certificate.now c.requires.claim)

pub number_of-requires-clause-instances : goal.number_of-requires-clause-instances
number_of-requires-clause-instances c = subst AreInstances (sym c.instances-instances.ensures) (are_instances c.args.certificate.now c.requires.claim)

pub need_at-need-requires-clause-instances : goal.need_at-need-requires-clause-instances
need_at-need-requires-clause-instances c = subst AreInstances (sym c.instances-instances.ensures) (are_instances c.args.certificate.now c.requires.claim)

pub overflow_cast-result-in-Some-low_need : goal.overflow_cast-result-in-Some-low_need
overflow_cast-result-in-Some-low_need c =
    let least = subst (λ i. IsLeastOffered (MeetsNeed i) (LowNeed i) NumberBelow c.args.demands.now (Some c.in-Some-low_need.j)) c.instances-instances.ensures c.in-Some-low_need.ensures in
    let fits = need_fits c.args.certificate.now.instances c.args.demands.now c.in-Some-low_need.j c.requires.claim.few_insts c.requires.inside least in
    omega (arith, fits)

pub returns-in-Some-low_need : goal.returns-in-Some-low_need
returns-in-Some-low_need c = (
  subst (λ i. RanksFall i c.args.demands.now) c.instances-instances.ensures c.in_default.ensures,
  subst (λ i. IsLeastOffered (MeetsNeed i) (LowNeed i) NumberBelow c.args.demands.now (Some c.in-Some-low_need.j)) c.instances-instances.ensures c.in-Some-low_need.ensures,
  c.most_asked.ensures,
)

pub returns-then-not-is_bounded : goal.returns-then-not-is_bounded
returns-then-not-is_bounded c =
    let i = c.instances-instances.result.now in
    let need : c.need_at-need.result ≡ need_in c.args.certificate.now.instances root_inst =
    c.need_at-need.ensures.value
    ∙ (ap (need_at i) c.number_of.ensures.value
    ∙ (need_there i c.root.result ∙ (ap (need_in i) c.root.ensures ∙ ap (λ x. need_in x root_inst) c.instances-instances.ensures))) in (
      subst (λ i. RanksFall i c.args.demands.now) c.instances-instances.ensures c.in_default.ensures,
      subst (λ i. AllMet i c.args.demands.now) c.instances-instances.ensures c.in_default-low_need.ensures,
      need,
      λ m. let t = c.is_bounded.ensures.1 (omega (arith, need, c.bound-bound.ensures, m.enough), omega (arith, c.bound-bound.ensures, m.small)) in
          let f = c.if-not-is_bounded.true in cc,
    )

pub returns-then-not-same : goal.returns-then-not-same
returns-then-not-same c =
    let i = c.instances-instances.result.now in
    let need : c.need_at-need.result ≡ need_in c.args.certificate.now.instances root_inst =
    c.need_at-need.ensures.value
    ∙ (ap (need_at i) c.number_of.ensures.value
    ∙ (need_there i c.root.result ∙ (ap (need_in i) c.root.ensures ∙ ap (λ x. need_in x root_inst) c.instances-instances.ensures))) in (
      subst (λ i. RanksFall i c.args.demands.now) c.instances-instances.ensures c.in_default.ensures,
      subst (λ i. AllMet i c.args.demands.now) c.instances-instances.ensures c.in_default-low_need.ensures,
      let fits = c.is_bounded.ensures.0 c.if-not-is_bounded.false in record {
        enough = omega (arith, fits.0, c.bound-bound.ensures, need);
        small = omega (arith, fits.1, c.bound-bound.ensures);
      },
      λ e. let t = c.same.ensures.1 (c.assumptions.ensures ∙ e) in let f = c.if-not-same.true in cc,
    )

pub returns : goal.returns
returns c =
    let i = c.instances-instances.result.now in
    let need : c.need_at-need.result ≡ need_in c.args.certificate.now.instances root_inst =
    c.need_at-need.ensures.value
    ∙ (ap (need_at i) c.number_of.ensures.value
    ∙ (need_there i c.root.result ∙ (ap (need_in i) c.root.ensures ∙ ap (λ x. need_in x root_inst) c.instances-instances.ensures))) in (
      subst (λ i. RanksFall i c.args.demands.now) c.instances-instances.ensures c.in_default.ensures,
      subst (λ i. AllMet i c.args.demands.now) c.instances-instances.ensures c.in_default-low_need.ensures,
      let fits = c.is_bounded.ensures.0 c.if-not-is_bounded.false in record {
        enough = omega (arith, fits.0, c.bound-bound.ensures, need);
        small = omega (arith, fits.1, c.bound-bound.ensures);
      },
      sym c.assumptions.ensures ∙ c.same.ensures.0 c.if-not-same.false,
      c.bound-bound.ensures,
    )
