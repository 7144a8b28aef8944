use Rattle.text_base.proofs.Spelling.{hex_read, hex_spelled, dec_is_read, dec_is_spelled}
use Rattle.text_base.proofs.Splitting.{joined_lines, are_lines}
use Rattle.text_base.proofs.Writing.{lines_read, sizes_are_lengths, words_read, writes_lines}
use Rattle.text_base.proofs.laws.spelling.Goals as goal

pub returns-clause-hex_read : goal.returns-clause-hex_read
returns-clause-hex_read c = hex_read

pub returns-clause-hex_spelled : goal.returns-clause-hex_spelled
returns-clause-hex_spelled c = hex_spelled

pub returns-clause-decimal_read : goal.returns-clause-decimal_read
returns-clause-decimal_read c = dec_is_read

pub returns-clause-decimal_spelled : goal.returns-clause-decimal_spelled
returns-clause-decimal_spelled c = dec_is_spelled

pub returns-clause-lines : goal.returns-clause-lines
returns-clause-lines c = lines_read

pub returns-clause-text : goal.returns-clause-text
returns-clause-text c = joined_lines

pub returns-clause-are_lines : goal.returns-clause-are_lines
returns-clause-are_lines c = are_lines

pub returns-clause-sizes : goal.returns-clause-sizes
returns-clause-sizes c = sizes_are_lengths

pub returns-clause-words : goal.returns-clause-words
returns-clause-words c = words_read

pub returns-clause-writing : goal.returns-clause-writing
returns-clause-writing c = writes_lines
