use Rattle.std.proofs.Common.{◌≡◌, ◌*◌, ◌/◌, ◌<◌, [], length, get_or, ap, ◌∙◌, arith, rules}
use Rattle.bench.specs.Running.{request_in}
use Rattle.bench.proofs.Chunks.{chunk_at, request_at}
use Rattle.bench.proofs.Telling.{so_far_more, so_far_all}
use Rattle.bench.proofs.running.carry.Goals as goal

pub loop-request-preserved : goal.loop-request-preserved
loop-request-preserved g c =
    let e = c.reply-answer.ensures in
    let put = c.put_record.ensures in
    let script = c.args.script.now in
    let k = c.loop-request.request-index in
    let lt : k < length script / 3 = omega (arith, c.as_chunks.ensures.front_len) in
    let chunk = ap (λ l. get_or l k []) c.as_chunks.ensures.front ∙ chunk_at (length script / 3) script k [] lt in
    let asked = c.request_of.ensures ∙ ap (λ l. request_in l 0) chunk ∙ request_at script (3 * k) in
    so_far_more (g.B.Book.model c.args.book.now) _ _ _ c.args.card.now _ c.loop-request.card _ c.reply-answer.new.card _
    script k c.new-writer.result c.loop-request.writer c.put_record.new.writer c.request_of.result c.reply-answer.result put.bytes.words
    c.requires.numbered c.loop-request.invariant e.plan e.span e.replied asked put.bytes.facts put.bytes.writes put.place

pub returns : goal.returns
returns g c =
    let at : c.loop-request.request-index ≡ length c.args.script.now / 3 = omega (arith, c.as_chunks.ensures.front_len) in
    so_far_all (g.B.Book.model c.args.book.now) _ _ c.args.card.now _ c.loop-request.card _ c.args.script.now c.loop-request.request-index c.new-writer.result c.loop-request.writer at
    c.args.out.now c.place.result _ (search rules) c.place.ensures (search rules) c.loop-request.invariant
