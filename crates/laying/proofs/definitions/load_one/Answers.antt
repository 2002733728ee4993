-- One more definition: its words are laid behind those before, and its references are looked up among them.
use Rattle.laying.proofs.LoadLaws.{room_there, small_id, small_end, end_inside, one_length, same_room, refused_one, loads_one}
use Rattle.laying.proofs.KeptRowLaws.{kept_behind}
use native.Mathlib.Omega.{arith}
use Rattle.laying.proofs.definitions.load_one.Goals as goal

pub lay_run-end-requires : goal.lay_run-end-requires
lay_run-end-requires c =
    let r = c.read_definition-e in (
      r.ensures.pattern_placed,
      c.requires.0.small,
      room_there c.args.s.now c.args.words.now c.args.mark c.args.p c.requires.0 c.requires.1 c.requires.2 r.result r.ensures,
      kept_behind (omega arith) c.requires.0.kept,
    )

pub enter-requires : goal.enter-requires
enter-requires c =
    let s = c.args.s.now in
    let ws = c.args.words.now in
    let r = c.read_definition-e in
    let long = c.lay_run-end.ensures.fill in (
      omega arith,
      end_inside s ws c.args.mark c.args.p c.requires.0 c.requires.1 c.requires.2 r.result r.ensures c.lay_run-end.new.words c.lay_run-end.result
          c.lay_run-end.ensures.held c.lay_run-end.ensures.fill,
      small_end s ws c.args.mark c.args.p c.requires.0 c.requires.1 c.requires.2 r.result r.ensures c.lay_run-end.new.words c.lay_run-end.result
          c.lay_run-end.ensures.held c.lay_run-end.ensures.fill,
      small_id s ws c.args.mark c.args.p c.requires.0 c.requires.1 c.requires.2 r.result r.ensures c.lay_run-end.new.words c.lay_run-end.result
          c.lay_run-end.ensures.held c.lay_run-end.ensures.fill,
      c.outline_of-outline.ensures.small.0,
      c.outline_of-outline.ensures.small.1,
      c.outline_of-outline.ensures.small.2,
    )

pub overflow_add-run : goal.overflow_add-run
overflow_add-run c =
    let w = c.requires.0.small in
    let r = c.read_definition-e.ensures.pattern_placed in
    let a = r.behind in
    let b = r.ends in
    omega arith

pub next_block-sections-requires : goal.next_block-sections-requires
next_block-sections-requires c =
    let r = c.read_definition-e.ensures.pattern_placed in
    let a = r.number in
    let b = r.behind in
    (omega arith, omega arith, r.ends)

pub returns-in-Some : goal.returns-in-Some
returns-in-Some c =
    let s = c.args.s.now in
    let ws = c.args.words.now in
    let r = c.read_definition-e in
    let f = c.reference_fault in (
      refused_one s ws c.args.mark c.args.p c.requires.0 c.requires.1 c.requires.2 r.result r.ensures c.lay_run-end.new.words c.lay_run-end.result
          c.lay_run-end.ensures.held c.lay_run-end.ensures.fill c.next_block-sections.result c.next_block-sections.ensures f.result f.ensures c.in-Some.is,
      same_room s ws c.args.mark c.args.p c.requires.0 c.requires.1 c.requires.2 r.result r.ensures c.lay_run-end.new.words c.lay_run-end.result
          c.lay_run-end.ensures.held c.lay_run-end.ensures.fill,
    )

pub returns : goal.returns
returns c =
    let s = c.args.s.now in
    let ws = c.args.words.now in
    let r = c.read_definition-e in
    let f = c.reference_fault in (
      loads_one s ws c.args.mark c.args.p c.requires.0 c.requires.1 c.requires.2 r.result r.ensures c.lay_run-end.new.words c.lay_run-end.result
          c.lay_run-end.ensures.held c.lay_run-end.ensures.fill c.next_block-sections.result c.next_block-sections.ensures f.result f.ensures c.in_default.is
          c.outline_of-outline.result c.enter.new.words c.outline_of-outline.ensures.outline c.enter.ensures,
      one_length s ws c.args.mark c.args.p c.requires.0 c.requires.1 c.requires.2 r.result r.ensures c.lay_run-end.new.words c.lay_run-end.result
          c.lay_run-end.ensures.held c.lay_run-end.ensures.fill c.outline_of-outline.result c.enter.new.words c.enter.ensures,
    )
