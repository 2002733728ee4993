-- A section is met, its parts are laid, what its pattern says is read, and the four words are entered in front of the parts.
use native.Mathlib.Omega.{arith}
use Rattle.laying.proofs.TextLaws.{even_few}
use Rattle.laying.proofs.KeptRowLaws.{kept_behind}
use Rattle.laying.proofs.SectionLaidLaws.{block_fits, lyrics_second, parts_room, header_asked, asked, end_inside, meter_few, tempo_small}
use Rattle.laying.proofs.SectionLaidLaws.{same_length, lays}
use Rattle.laying.proofs.texts.lay_section.Goals as goal

pub overflow_add-at : goal.overflow_add-at
overflow_add-at c =
    let h = block_fits c.requires.place.0 c.requires.place.1 c.requires.place.2 c.requires.place.3.room c.requires.row.0 c.requires.row.1 c.meet-met.ensures in
    omega arith

pub lay_parts-places-requires : goal.lay_parts-places-requires
lay_parts-places-requires c = record {
  places = (
    c.meet-met.ensures.read.pattern_placed,
    c.meet-met.ensures.read.lyrics_placed,
    lyrics_second c.requires.place.0 c.requires.place.1 c.requires.place.2 c.requires.place.3.room c.requires.row.0 c.requires.row.1 c.meet-met.ensures,
    c.meet-met.ensures.read.modifiers.before_inside,
    c.meet-met.ensures.read.modifiers.after_inside,
    c.requires.row.0.ready.small,
    kept_behind (omega arith) c.requires.place.3,
  );
  cuts = (c.meet-met.ensures.read.modifiers.front_fits, c.meet-met.ensures.read.modifiers.back_fits);
  room = parts_room c.requires.place.0 c.requires.place.1 c.requires.place.2 c.requires.place.3.room c.requires.row.0 c.requires.row.1 c.meet-met.ensures;
}

pub enter_section-requires : goal.enter_section-requires
enter_section-requires c =
    let few = even_few c.outline_by-outline.result c.meter_of-meter.result in
    let h = header_asked c.requires.place.0 c.requires.place.1 c.requires.place.2 c.requires.place.3.room c.requires.row.0 c.requires.row.1 c.meet-met.ensures
    c.lay_parts-places.ensures.places in
    let a = asked c.requires.place.0 c.requires.place.1 c.requires.place.2 c.requires.place.3.room c.requires.row.0 c.requires.row.1 c.meet-met.ensures
    c.lay_parts-places.ensures.places in
    let e = end_inside c.requires.place.0 c.requires.place.1 c.requires.place.2 c.requires.place.3.room c.requires.row.0 c.requires.row.1 c.meet-met.ensures
    c.lay_parts-places.ensures.places c.lay_parts-places.ensures.held in record {
      header = (
        h.0,
        h.1,
        h.2,
        meter_few c.requires.place.0 c.requires.place.1 c.requires.place.2 c.requires.place.3.room c.requires.row.0 c.requires.row.1 c.meet-met.ensures
            c.meter_of-meter.ensures,
        tempo_small c.requires.place.0 c.requires.place.1 c.requires.place.2 c.requires.place.3.room c.requires.row.0 c.requires.row.1 c.meet-met.ensures
            c.tempo_of-tempo.ensures,
        omega arith,
      );
      places = (a.0, a.1, a.2, a.3, a.4, a.5, a.6, a.7, e);
    }

pub shape_of-words : goal.shape_of-words
shape_of-words c =
    same_length c.requires.place.0 c.requires.place.1 c.requires.place.2 c.requires.place.3.room c.requires.row.0 c.requires.row.1 c.meet-met.ensures
    c.lay_parts-places.ensures.places c.lay_parts-places.ensures.held _ c.meter_of-meter.ensures
    c.tempo_of-tempo.ensures c.enter_section.ensures

pub returns : goal.returns
returns c = record {
  lays = lays c.requires.place.0 c.requires.place.1 c.requires.place.2 c.requires.place.3.room c.requires.row.0 c.requires.row.1 c.meet-met.ensures
      c.lay_parts-places.ensures.places c.lay_parts-places.ensures.held _ c.meter_of-meter.ensures
      c.tempo_of-tempo.ensures c.enter_section.ensures c.named_at-named.ensures
      c.outline_by-outline.ensures c.even_measures-even.ensures c.told_texts-texts.ensures c.lay_parts-places.ensures.fits;
  length = shape_of-words c;
}
