mod HeardLaws
