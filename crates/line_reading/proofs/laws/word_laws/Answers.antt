use Rattle.line_reading.proofs.Words.{hex_takes, hex_is_taken, hex_is_word, dec_takes, dec_is_taken, dec_is_word, words_stand, line_is_words, lines_stand, lines_are_text, text_is_lines}
use Rattle.line_reading.proofs.laws.word_laws.Goals as goal

pub returns : goal.returns
returns c = record {
  hex_takes = hex_takes c.spelling.ensures.hex_spelled;
  hex_taken = hex_is_taken c.spelling.ensures.hex_read;
  hex_word = hex_is_word c.spelling.ensures.hex_read;
  dec_takes = dec_takes c.spelling.ensures.decimal_spelled;
  dec_taken = dec_is_taken c.spelling.ensures.decimal_read;
  dec_word = dec_is_word c.spelling.ensures.decimal_read;
  words_stand = words_stand c.spelling.ensures.words;
  line_words = line_is_words;
  lines_stand = lines_stand;
  lines_text = lines_are_text;
  text_lines = text_is_lines c.spelling.ensures.lines;
  text_joined = c.spelling.ensures.text;
  are_lines = c.spelling.ensures.are_lines;
}
