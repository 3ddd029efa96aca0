mod SkewLaws
