-- What the definitions agree with: the computed bytes, answers and edges, gathered.
-- No theorem of the protocol is used, so that an edit of the definitions meets a value.
-- Assumes nothing.
use Rattle.protocol.specs.Alphabet.{Alphabet}
use Rattle.protocol.specs.Setting.{Setting}
use Rattle.protocol.specs.MaskPlaces.{MaskPlaces}
use Rattle.protocol.specs.SmallExample.{SmallKey, SmallColumns, SmallBytes, SmallProof, SmallReplies}
use Rattle.protocol.specs.ThreeRepetitions.{ThreeRepetitions}
use Rattle.protocol.specs.PracticeKey.{PracticeKey}
use Rattle.protocol.specs.QuestionNumbers.{QuestionNumbers}
use Rattle.protocol.specs.Symbols.{FourToAByte, SymbolTables, SymbolStrings, SymbolMasks}
use Rattle.protocol.specs.Edges.{Limits, Forms, Numbers, Lengths, Order, Derived, Extents, Words}
use Rattle.protocol.proofs.MaskPlaces.{mask_places}
use Rattle.protocol.proofs.SmallExample.{small-key, small-columns, small_bytes, small-proof, small_replies}
use Rattle.protocol.proofs.ThreeRepetitions.{three_repetitions}
use Rattle.protocol.proofs.PracticeKey.{practice_key}
use Rattle.protocol.proofs.QuestionNumbers.{question-numbers}
use Rattle.protocol.proofs.Symbols.{four_to_a_byte, symbol_tables, symbol_strings, symbol_masks}
use Rattle.protocol.proofs.Edges.{limits_are, forms_are, numbers_are, lengths_are, order_is, derived_are, extents_are, words_are}

pub examples : SmallKey × SmallColumns × SmallBytes × SmallProof × SmallReplies × ThreeRepetitions × PracticeKey
examples = (small-key, small-columns, small_bytes, small-proof, small_replies, three_repetitions, practice_key)

pub edges : Limits × Forms × Numbers × Lengths × Order × Derived × Extents × Words
edges = (limits_are, forms_are, numbers_are, lengths_are, order_is, derived_are, extents_are, words_are)

pub symbols : FourToAByte × SymbolTables × SymbolStrings × SymbolMasks
symbols = (four_to_a_byte, symbol_tables, symbol_strings, symbol_masks)

pub masks_placed : (A : Alphabet) → MaskPlaces A
masks_placed = mask_places

pub questions_put : (g : Setting) → QuestionNumbers g
questions_put = question-numbers
