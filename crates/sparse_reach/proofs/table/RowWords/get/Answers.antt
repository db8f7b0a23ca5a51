use Rattle.std.proofs.Common.{◌≡◌, ◌∙◌}
use Rattle.sparse_reach.specs.Batches.{word_of}
use Rattle.sparse_reach.proofs.Batching.{word_got}
use Rattle.sparse_reach.proofs.table.RowWords.get.Goals as goal

pub returns : goal.returns
returns c =
    let words = c.self.inside in
    let list : c.word_of_number.result ≡ word_of c.index.result.now.items c.get_index_of-number.result = rw c.deref.ensures.value at c.word_of_number.ensures in
    list ∙ word_got words.rows words.nodes.keys words.batches.items c.args.at c.args.self.now c.self.view_is c.requires c.len-count.result
    (c.len-count.ensures ∙ words.batches.ok.0) c.index.result.now c.index.ensures c.get_index_of-number.result c.get_index_of-number.ensures.index
