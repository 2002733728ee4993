-- Key by key: the words before it are written, the rest of the table is as it was.
use Rattle.songcode.specs.Answer.SongText.{metadata_lines}
use Rattle.songcode.specs.Answer.Answer.{blocks_of}
use Rattle.sections.specs.Gathering.{FirstSaid}
use Rattle.laying.proofs.SongSaysLaws.{said_short, keys_none, keys_more, keys_all}
use Rattle.laying.proofs.keys.lay_keys.Goals as goal
use Rattle.laying.proofs.keys.lay_keys.Goals.{After-said}

pub loop-k-init : goal.loop-k-init
loop-k-init c =
    keys_none c.args.s.now c.args.keys.now

-- The setting that is read is the first of its key.
found : (c : After-said)
    → FirstSaid c.args.s.now
    (metadata_lines (blocks_of c.args.s.now))
    c.loop-k.k c.said.result
found c =
    rw c.said.ensures (c.requires.rows.0.each c.loop-k.k c.loop-k-test.true)

pub key_said-requires : goal.key_said-requires
key_said-requires c =
    ((found c).inside, c.requires.text.1, c.requires.text.0, said_short c.requires.text.2 (found c))

pub loop-k-preserved : goal.loop-k-preserved
loop-k-preserved c =
    let l = c.loop-k in
    keys_more c.args.s.now l.keys c.args.keys.now l.k c.key_said.result c.loop-k-test.true c.requires.rows.1
    (found (goal.at.loop-k-preserved c).After-said) c.key_said.ensures l.invariant

pub returns : goal.returns
returns c =
    let l = c.loop-k in
    keys_all c.args.s.now l.keys c.args.keys.now l.k c.loop-k-test.false c.requires.rows.1 l.invariant
