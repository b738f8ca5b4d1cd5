use Rattle.std.proofs.Common.{◌∙◌, Ok, ap, subst, sym}
use Rattle.std.specs.Prelude.{encode_utf8_all}
use Rattle.rt_rga.proofs.Accepting.{one_list}
use Rattle.rt_rga.proofs.Final.{ends_final}
use Rattle.rt_rga.specs.Cells.{cells_of}
use Rattle.rt_store.specs.Cells.{EndsFinal, text_of}
use Rattle.rt_peers.specs.ViewStep.{one_word}
use Rattle.rt_peers.proofs.WholeText.{told_whole}
use Rattle.rt_peers.proofs.laws.sites_tell_alike.Goals as goal

pub returns : goal.returns
returns c =
    let one = c.args.one.now in
    let other = c.args.other.now in
    let ends = subst EndsFinal (sym c.log.ensures.cells) (ends_final one.text.view.doc.log c.log.ensures.history) in
    let other_ends = subst EndsFinal (sym c.log-2.ensures.cells) (ends_final other.text.view.doc.log c.log-2.ensures.history) in
    record {
      whole = λ path shows. told_whole path one ends shows;
      alike = λ same path shows other_path other_shows.
          let cells = c.log.ensures.cells ∙ ap cells_of (one_list _ _ c.log.ensures.history c.log-2.ensures.history same) ∙ sym c.log-2.ensures.cells in (
            one_word (encode_utf8_all (text_of one.text.view.doc.cells)),
            told_whole path one ends shows,
            told_whole other_path other other_ends other_shows
                ∙ (λ i. Ok (one_word (encode_utf8_all (text_of (sym cells i))), other)),
          );
    }
