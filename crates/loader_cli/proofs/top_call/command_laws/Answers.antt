use Rattle.loader_cli.proofs.top_call.command_laws.Goals as goal

pub returns-clause-images : goal.returns-clause-images
returns-clause-images c = record {
  not_both = c.an_image_holds_one_configuration.ensures.not_both;
  one_standing = c.an_image_holds_one_configuration.ensures.one_standing;
  one_fault = c.an_image_holds_one_configuration.ensures.one_fault;
}

pub returns-clause-formers : goal.returns-clause-formers
returns-clause-formers c = record {
  not_both = c.an_image_holds_one_former.ensures.not_both;
  one_former = c.an_image_holds_one_former.ensures.one_former;
  one_fault = c.an_image_holds_one_former.ensures.one_fault;
}

pub returns-clause-building : goal.returns-clause-building
returns-clause-building c = record {
  sizes = c.building_laws.ensures.sizes;
  sources = c.building_laws.ensures.sources;
  built = c.a_written_folder_holds_the_set.ensures.built;
  made = c.a_written_folder_holds_the_set.ensures.made;
}

pub returns-clause-uploads : goal.returns-clause-uploads
returns-clause-uploads c = record {
  completes = c.a_generated_upload_completes.ensures;
  happens = c.only_a_trial_happens.ensures;
  fits = c.what_a_disk_holds_can_be_listed.ensures.fits;
}

pub returns-clause-shows : goal.returns-clause-shows
returns-clause-shows c = record {
  of_header = λ value bytes spells. (c.header_laws.ensures.spelled value bytes).1 spells;
  of_loads = λ value bytes spells. (c.loads_list_laws.ensures.spelled value bytes).1 spells;
  of_files = λ value bytes spells. (c.files_list_laws.ensures.spelled value bytes).1 spells;
  of_batches = λ value bytes spells. (c.batches_list_laws.ensures.spelled value bytes).1 spells;
  of_batch = λ value bytes spells. (c.batch_laws.ensures.spelled value bytes).1 spells;
  of_lci = λ value bytes spells. (c.protocol_file_laws.ensures.lci.spelled bytes value).1 spells;
  of_lcl = λ value bytes spells. (c.protocol_file_laws.ensures.lcl.spelled bytes value).1 spells;
  of_lcs = λ value bytes spells. (c.protocol_file_laws.ensures.lcs.spelled bytes value).1 spells;
  of_lui = λ value bytes spells. (c.protocol_file_laws.ensures.lui.spelled bytes value).1 spells;
  of_lur = λ value bytes spells. (c.protocol_file_laws.ensures.lur.spelled bytes value).1 spells;
  of_lus = λ value bytes spells. (c.protocol_file_laws.ensures.lus.spelled bytes value).1 spells;
}
