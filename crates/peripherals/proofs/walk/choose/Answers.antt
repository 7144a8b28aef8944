use Rattle.peripherals.proofs.walk.choose.Goals as goal

pub returns-clause-chosen : goal.returns-clause-chosen
returns-clause-chosen g c = record {
  answer = c.answer-answer.result;
  asked = (c.menu.result, record { device = c.menu.ensures.device; pc = c.menu.ensures.pc; sp = c.menu.ensures.sp; masks = c.menu.ensures.masks; takes = c.menu.ensures.takes }, c.answer-answer.ensures);
  choice = c.choice-choice.ensures;
  next = c.pass.ensures.next;
}
