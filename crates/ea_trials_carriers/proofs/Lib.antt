mod TagsRead
