use Rattle.cert_format.proofs.Whole.{read_is_spelled, spelled_is_read, one_text, claims_keep}
use Rattle.cert_format.proofs.Refused.{read_is_due}
use Rattle.cert_format.proofs.laws.certificate_texts.Goals as goal

pub returns-clause-read : goal.returns-clause-read
returns-clause-read c = read_is_spelled (record { words = c.word_laws.ensures; insts = c.item_lines.ensures.instances; nodes = c.item_lines.ensures.nodes; entries = c.list_texts.ensures.words; keys = c.keys_are_ordered.ensures; schedule_spelled = c.reading_is_exact.ensures.read; schedule_read = c.reading_is_exact.ensures.spelled; schedule_text = c.reading_is_text.ensures.lines })

pub returns-clause-spelled : goal.returns-clause-spelled
returns-clause-spelled c = spelled_is_read (record { words = c.word_laws.ensures; insts = c.item_lines.ensures.instances; nodes = c.item_lines.ensures.nodes; entries = c.list_texts.ensures.words; keys = c.keys_are_ordered.ensures; schedule_spelled = c.reading_is_exact.ensures.read; schedule_read = c.reading_is_exact.ensures.spelled; schedule_text = c.reading_is_text.ensures.lines })

pub returns-clause-one : goal.returns-clause-one
returns-clause-one c = one_text (record { words = c.word_laws.ensures; insts = c.item_lines.ensures.instances; nodes = c.item_lines.ensures.nodes; entries = c.list_texts.ensures.words; keys = c.keys_are_ordered.ensures; schedule_spelled = c.reading_is_exact.ensures.read; schedule_read = c.reading_is_exact.ensures.spelled; schedule_text = c.reading_is_text.ensures.lines })

pub returns-clause-due : goal.returns-clause-due
returns-clause-due c = read_is_due (record { words = c.word_laws.ensures; insts = c.item_lines.ensures.instances; nodes = c.item_lines.ensures.nodes; entries = c.list_texts.ensures.words; keys = c.keys_are_ordered.ensures; schedule_spelled = c.reading_is_exact.ensures.read; schedule_read = c.reading_is_exact.ensures.spelled; schedule_text = c.reading_is_text.ensures.lines }) c.reading_is_exact.ensures.refused

pub returns-clause-parts : goal.returns-clause-parts
returns-clause-parts c = claims_keep (record { words = c.word_laws.ensures; insts = c.item_lines.ensures.instances; nodes = c.item_lines.ensures.nodes; entries = c.list_texts.ensures.words; keys = c.keys_are_ordered.ensures; schedule_spelled = c.reading_is_exact.ensures.read; schedule_read = c.reading_is_exact.ensures.spelled; schedule_text = c.reading_is_text.ensures.lines })
