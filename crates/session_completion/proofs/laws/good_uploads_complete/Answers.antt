use Rattle.session_completion.proofs.GoodUploads.{good_uploads_complete}
use Rattle.session_completion.proofs.laws.good_uploads_complete.Goals as goal

pub returns : goal.returns
returns c =
    let well = c.good_uploads_go_well.ensures in
    let safe = c.a_run_stands_where_a_clean_one_stands.ensures in
    good_uploads_complete well.lead_on well.read safe.delivered safe.ticked safe.told c.finish_comes_to_an_end.ensures
