-- The fields of words are read back in one way only: every promise, proved.
use Rattle.packing.specs.ReadBack.{ReadBack}
use Rattle.packing.proofs.RoundTrips.{one_section, one_measure, one_beat, one_item, section_fields, measure_fields}
use Rattle.packing.proofs.RoundTrips.{section_read, measure_read, chord_read, silence_read, item_read}
use Rattle.packing.proofs.RowsRead.{section_row_lem, measure_row, beat_row, item_row}

pub read_back : ReadBack
read_back =
    record {
      one_section = λ word s t h g. one_section h g;
      one_measure = λ word m n h g. one_measure h g;
      one_beat = λ word b c h g. one_beat h g;
      one_item = λ word a b h g. one_item h g;
      section_read = λ header first measures meter tempo a b c d e s h. section_read a b c d e h;
      measure_read = λ first beats a b m h. measure_read a b h;
      chord_read = λ c head x y z b h. chord_read c head x y z h;
      silence_read = λ head b h. silence_read head h;
      item_read = λ p a b c d e i h. item_read p a b c d e h;
      section_fields = λ word s h. section_fields h;
      measure_fields = λ word m h. measure_fields h;
      section_row_lem = section_row_lem;
      measure_row = measure_row;
      beat_row = beat_row;
      item_row = item_row;
    }
